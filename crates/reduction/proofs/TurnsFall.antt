-- A turn never raises actions plus weights, and where it leaves the sum it leaves the task: no action goes, no variable
-- goes, and every value keeps its number.
use Prim.Native.Nat.{ℕ, zero, suc, ◌+◌, ◌-◌, ◌≤◌, ◌<◌}
use mathlib.Core.Path.{◌≡◌, refl, sym, ap, ap₂, ◌∙◌}
use mathlib.Core.Bool.{Bool, true, false}
use mathlib.Core.List.{List, [], ◌∷◌}
use native.Mathlib.Omega.{arith}
use native.Mathlib.Nat.{not-suc-le-zero}
use lib.Seq.{ext_get_or}
use Rattle.files.specs.Below.{count_below, sum_below}
use Rattle.files.specs.Task.{Pair, Task, pair, variable, action, variable_count, action_count, variable_of, action_of, size_of, start_of}
use Rattle.files.specs.Accepted.{valid_pairs}
use Rattle.files.proofs.Done.{facts}
use Rattle.files.proofs.Logic.{split, split_le}
use Rattle.files.proofs.BelowLaws.{bit_true, bit_false}
use Rattle.files.proofs.CountOrder.{count_most}
use Rattle.files.proofs.Valid.{Valid}
use Rattle.reduction.specs.Named.{kept_variable}
use Rattle.reduction.specs.Renumber.{new_variable, new_value, new_size}
use Rattle.reduction.specs.ReducedBy.{reduced_pairs, reduced_variable, reduced_action, reduced_by, kept_at}
use Rattle.reduction.specs.Reach.{reached}
use Rattle.reduction.specs.Turns.{struck_to, turn_reduced, turn_task}
use Rattle.reduction.proofs.StruckCorresponds.{struck_chooses}
use Rattle.reduction.proofs.KeptActions.{reduced_chooses, chosen_count, kept_action}
use Rattle.reduction.proofs.KeptVariables.{reduced_variables, reduced_variable_lem}
use Rattle.reduction.proofs.ReducedValid.{new_value_inside, new_size_most}
use Rattle.reduction.proofs.Weights.{full_passes, rank_own, weight, measure, weight_least, kept_falls, kept_leaves}

-- sums over the numbers that pass, by their ranks, against sums over all
module _ (K : ℕ → Bool) (f g : ℕ → ℕ) where
  abbrev Under : ℕ → Type 0
  Under n = (i : ℕ) → i < n → K i ≡ true → g (count_below i K) ≤ f i

  abbrev Some : ℕ → Type 0
  Some n = (i : ℕ) → i < n → K i ≡ false → 1 ≤ f i

  passing_next : (n : ℕ) → K n ≡ true → sum_below (count_below (suc n) K) g ≡ g (count_below n K) + sum_below (count_below n K) g
  passing_next n k = let e : count_below (suc n) K ≡ suc (count_below n K) = omega (arith, bit_true (K n) k) in ap (λ (m : ℕ). sum_below m g) e

  failing_next : (n : ℕ) → K n ≡ false → sum_below (count_below (suc n) K) g ≡ sum_below (count_below n K) g
  failing_next n k = let e : count_below (suc n) K ≡ count_below n K = omega (arith, bit_false (K n) k) in ap (λ (m : ℕ). sum_below m g) e

  passing_sum : (n : ℕ) → Under n → Some n → sum_below (count_below n K) g ≤ sum_below n f
  passing_sum zero under some = omega arith
  passing_sum (suc n) under some =
      let below = passing_sum n (λ i l. under i (omega arith)) (λ i l. some i (omega arith)) in
      split (K n)
      (λ k. omega (arith, passing_next n k, under n (omega arith) k))
      (λ k. omega (arith, failing_next n k))

  passing_same : (n : ℕ) → Under n → Some n → sum_below n f ≤ sum_below (count_below n K) g → (i : ℕ) → i < n → (K i ≡ true) × (f i ≤ g (count_below i K))
  passing_same zero under some h i l = absurd (not-suc-le-zero l)
  passing_same (suc n) under some h i l =
      let below = passing_sum n (λ i l. under i (omega arith)) (λ i l. some i (omega arith)) in
      split (K n)
      (λ k.
      let last = under n (omega arith) k in
      let next = passing_next n k in
      split_le n i
      (λ m. let here : i ≡ n = omega arith in rw here (k, omega arith))
      (λ m. passing_same n (λ i l. under i (omega arith)) (λ i l. some i (omega arith)) (omega arith) i m))
      (λ k. absurd (omega (arith, failing_next n k, some n (omega arith) k)))

-- nothing goes, and every number stays
pub record Unmoved (t : Task) (A R : ℕ → Bool) : Type 0 where
  pub kept : (a : ℕ) → a < action_count t → A a ≡ true
  pub left : (a : ℕ) → a < action_count (reduced_by t A) → R a ≡ true
  pub variables : (v : ℕ) → v < variable_count t → kept_variable t A v ≡ true
  pub values : (v value : ℕ) → v < variable_count t → value < size_of t v → new_value t A v value ≡ value

module _ (t : Task) (ok : Valid t) (A R : ℕ → Bool) where
  abbrev struck : Task
  struck = struck_to (reduced_by t A) R

  struck_variables : variable_count struck ≡ count_below (variable_count t) (kept_variable t A)
  unfolding struck_to
  struck_variables = reduced_variables t A

  struck_actions : action_count struck ≡ count_below (action_count (reduced_by t A)) R
  struck_actions = chosen_count (struck_chooses (reduced_by t A) R)

  struck_measure : measure struck ≡ action_count struck + sum_below (count_below (variable_count t) (kept_variable t A)) (weight struck)
  unfolding measure
  struck_measure = ap (λ (n : ℕ). action_count struck + sum_below n (weight struck)) struck_variables

  kept_under : Under (kept_variable t A) (weight t) (weight struck) (variable_count t)
  unfolding new_variable
  kept_under v known kv = kept_falls t ok A R v known kv

  dropped_some : Some (kept_variable t A) (weight t) (weight struck) (variable_count t)
  dropped_some v known dropped = weight_least t v (ok.size_least v known)

  pub struck_falls : measure (struck_to (reduced_by t A) R) ≤ measure t
  unfolding measure
  struck_falls =
      omega (
        arith,
        struck_measure,
        struck_actions,
        chosen_count (reduced_chooses t A),
        count_most (action_count (reduced_by t A)) R,
        count_most (action_count t) A,
        passing_sum (kept_variable t A) (weight t) (weight struck) (variable_count t) kept_under dropped_some,
      )

  pub struck_leaves : measure t ≤ measure (struck_to (reduced_by t A) R) → Unmoved t A R
  unfolding measure new_variable
  struck_leaves h =
      let few_left = count_most (action_count (reduced_by t A)) R in
      let few_kept = count_most (action_count t) A in
      let less = passing_sum (kept_variable t A) (weight t) (weight struck) (variable_count t) kept_under dropped_some in
      let same = passing_same (kept_variable t A) (weight t) (weight struck) (variable_count t) kept_under dropped_some
      (omega (arith, struck_measure, struck_actions, chosen_count (reduced_chooses t A))) in
      record {
        kept = full_passes A (action_count t) (omega (arith, struck_measure, struck_actions, chosen_count (reduced_chooses t A)));
        left = full_passes R (action_count (reduced_by t A)) (omega (arith, struck_measure, struck_actions, chosen_count (reduced_chooses t A)));
        variables = λ v known. (same v known).0;
        values = λ v value known. kept_leaves t ok A R v known (same v known).0 (same v known).1 value;
      }

  -- the task that is left where nothing moves
  module _ (still : Unmoved t A R) where
    own_variable : (v : ℕ) → v ≤ variable_count t → new_variable t A v ≡ v
    unfolding new_variable
    own_variable v known = rank_own (kept_variable t A) v (λ w l. still.variables w (omega arith))

    pub unmoved_size : (v : ℕ) → v < variable_count t → new_size t A v ≡ size_of t v
    unmoved_size v known =
        let least = ok.size_least v known in
        let last = size_of t v - 1 in
        omega (arith, new_size_most t A v, new_value_inside t A v last (omega arith), still.values v last known (omega arith))

    own_pairs : (low : ℕ) (ps : List Pair) → valid_pairs t low ps ≡ true → reduced_pairs t A ps ≡ ps
    unfolding reduced_pairs valid_pairs
    own_pairs low [] e = refl
    own_pairs low (p ∷ ps) e =
        let first = simp facts at e in
        let v = p.variable in
        rw (still.variables v first.1.0)
        (ap₂ (λ (q : Pair) (qs : List Pair). q ∷ qs)
        (ap₂ pair (own_variable v (omega (arith, first.1.0))) (still.values v p.value first.1.0 first.1.1.0))
        (own_pairs (v + 1) ps first.1.1.1))

    own_entry : (v : ℕ) → v < variable_count t → variable_of struck v ≡ variable_of t v
    unfolding struck_to reduced_variable
    own_entry v known =
        ap (variable_of struck) (sym (own_variable v (omega arith)))
        ∙ reduced_variable_lem t A v known (still.variables v known)
        ∙ ap₂ variable (unmoved_size v known) (still.values v (start_of t v) known (ok.start v known))

    own_action : (a : ℕ) → reduced_action t A (action_of t a) ≡ action_of t a
    unfolding reduced_action
    own_action a =
        ap₂ (action (action_of t a).cost) (own_pairs 0 (action_of t a).conditions (ok.action a).conditions) (own_pairs 0 (action_of t a).effects (ok.action a).effects)

    own_count : action_count (reduced_by t A) ≡ action_count t
    own_count = chosen_count (reduced_chooses t A) ∙ rank_own A (action_count t) still.kept

    own_place : (a : ℕ) → a < action_count t → action_of struck a ≡ action_of t a
    own_place a known =
        let r = reduced_by t A in
        let in_r : a < action_count r = omega (arith, own_count) in
        let left : count_below a R ≡ a = rank_own R a (λ b l. still.left b (omega arith)) in
        let kept : count_below a A ≡ a = rank_own A a (λ b l. still.kept b (omega arith)) in
        ap (action_of struck) (sym left)
        ∙ kept_action (struck_chooses r R) a in_r (still.left a in_r)
        ∙ ap (action_of r) (sym kept)
        ∙ kept_action (reduced_chooses t A) a known (still.kept a known)
        ∙ own_action a

    same_variables : struck.variables ≡ t.variables
    same_variables =
        let count : variable_count struck ≡ variable_count t = struck_variables ∙ rank_own (kept_variable t A) (variable_count t) still.variables in
        ext_get_or (variable 0 0) struck.variables t.variables count (λ v l. own_entry v (omega (arith, count)))

    same_goal : struck.goal ≡ t.goal
    unfolding struck_to reduced_by
    same_goal = own_pairs 0 t.goal ok.goal

    same_actions : struck.actions ≡ t.actions
    same_actions =
        let count : action_count struck ≡ action_count t = struck_actions ∙ rank_own R (action_count (reduced_by t A)) still.left ∙ own_count in
        ext_get_or (action 0 [] []) struck.actions t.actions count (λ a l. own_place a (omega (arith, count)))

  pub unmoved_same : Unmoved t A R → struck_to (reduced_by t A) R ≡ t
  unmoved_same still = λ i. record { variables = same_variables still i; goal = same_goal still i; actions = same_actions still i }

  pub same_unmoved : struck_to (reduced_by t A) R ≡ t → Unmoved t A R
  same_unmoved e = struck_leaves (omega (arith, ap measure e))

-- turns
pub turn_falls : (t : Task) → Valid t → measure (turn_task t) ≤ measure t
unfolding turn_task turn_reduced
turn_falls t ok = struck_falls t ok (kept_at t 4) (reached (turn_reduced t))

pub turn_leaves : (t : Task) → Valid t → measure t ≤ measure (turn_task t) → turn_task t ≡ t
unfolding turn_task turn_reduced
turn_leaves t ok h = unmoved_same t ok (kept_at t 4) (reached (turn_reduced t)) (struck_leaves t ok (kept_at t 4) (reached (turn_reduced t)) h)

pub turn_unmoved : (t : Task) → Valid t → turn_task t ≡ t → Unmoved t (kept_at t 4) (reached (turn_reduced t))
unfolding turn_task turn_reduced
turn_unmoved t ok e = same_unmoved t ok (kept_at t 4) (reached (turn_reduced t)) e
