-- The reduced task of an accepted task is accepted, and a kept variable has at least two values.
use Prim.Native.Nat.{ℕ, zero, suc, ◌+◌, ◌≤◌, ◌<◌}
use mathlib.Core.Path.{◌≡◌, refl, ap, subst, subst⁻¹}
use mathlib.Core.Bool.{Bool, true, false, not, ◌&&◌, ◌||◌}
use mathlib.Core.List.{List, [], ◌∷◌}
use mathlib.Core.Logic.{⊎_elim}
use native.Mathlib.Omega.{arith}
use lib.Dec.{eqb}
use lib.ListN.{length, get_or}
use borrow.Author.Tests.{eqb-true, eqb-false, eq-eqb, not-true}
use Rattle.files.specs.Below.{any_below, count_below, any_of, all_of}
use Rattle.files.specs.Task.{Pair, Action, Task, pair, variable, action, variable_count, action_count, variable_of, action_of, size_of, start_of}
use Rattle.files.specs.Accepted.{valid_pairs, valid_variable, valid_action, accepted_task}
use Rattle.files.proofs.Logic.{clash, split, split_le, cond_case, and_split, and_join, or_split, or_right}
use Rattle.files.proofs.Done.{facts}
use Rattle.files.proofs.BelowLaws.{any_below_intro, any_below_elim, all_below_intro, bit_true, bit_false, count_mono, count_strict, chosen}
use Rattle.files.proofs.Valid.{Valid, task_valid}
use Rattle.plans.specs.State.{has_fact}
use Rattle.plans.proofs.FactLaws.{fact_here, fact_later, fact_valid}
use Rattle.marking.specs.Links.{sets_other, threatened}
use Rattle.files.proofs.CountOrder.{count_most}
use Rattle.reduction.specs.Named.{named, has_named, settled, kept_variable}
use Rattle.reduction.specs.Renumber.{new_variable, named_count, new_value, new_size}
use Rattle.reduction.specs.ReducedBy.{reduced_pairs, reduced_action, reduced_by}
use Rattle.reduction.proofs.KeptVariables.{reduced_variables, new_variable_known, reduced_size, reduced_start}
use Rattle.reduction.proofs.KeptActions.{original_of, reduced_chooses, chosen_action}
use Rattle.reduction.proofs.ReducedLength.{reduced_variables_few, reduced_actions_few, reduced_pairs_few, reduced_goal_few, reduced_file_length}

-- how many numbers below a bound pass: all of them where none fails, fewer where one does
pub count_all : (K : ℕ → Bool) (n : ℕ) → any_below n (λ i. not (K i)) ≡ false → count_below n K ≡ n
count_all K zero e = refl
count_all K (suc n) e =
    split (K n)
    (λ k. let rest : any_below n (λ i. not (K i)) ≡ false = rw k at e in omega (arith, bit_true (K n) k, count_all K n rest))
    (λ k. clash (let here : any_below (suc n) (λ i. not (K i)) ≡ true = rw k in here) e)

pub count_fewer : (K : ℕ → Bool) (n : ℕ) → any_below n (λ i. not (K i)) ≡ true → count_below n K < n
count_fewer K zero e = clash e refl
count_fewer K (suc n) e =
    split (K n)
    (λ k. let rest : any_below n (λ i. not (K i)) ≡ true = rw k at e in omega (arith, bit_true (K n) k, count_fewer K n rest))
    (λ k. omega (arith, bit_false (K n) k, count_most n K))

-- every entry passes where each place's does
pub all_places : {X : Type 0} (f : X → Bool) (xs : List X) (d : X) → ((i : ℕ) → i < length xs → f (get_or xs i d) ≡ true) → all_of f xs ≡ true
all_places f [] d h = refl
all_places f (x ∷ xs) d h = and_join (h 0 (omega arith)) (all_places f xs d (λ i l. h (suc i) (omega arith)))

-- a test that some fact passes
any_fact : (f : ℕ → ℕ → Bool) (ps : List Pair) → any_of (λ p. f p.variable p.value) ps ≡ true → (v : ℕ) × (value : ℕ) × (has_fact ps v value ≡ true) × (f v value ≡ true)
any_fact f [] e = clash e refl
any_fact f (p ∷ ps) e =
    ⊎_elim
    (λ here. (p.variable, p.value, fact_here p ps, here))
    (λ there. let r = any_fact f ps there in (r.0, r.1, fact_later p ps r.0 r.1 r.2, r.3))
    (or_split (f p.variable p.value) (any_of (λ p. f p.variable p.value) ps) e)

-- pairs that rise from a number on rise from a lower one
valid_pairs_lower : (t : Task) (low high : ℕ) (ps : List Pair) → low ≤ high → valid_pairs t high ps ≡ true → valid_pairs t low ps ≡ true
unfolding valid_pairs
valid_pairs_lower t low high [] h e = refl
valid_pairs_lower t low high (p ∷ ps) h e = let first = simp facts at e in simp facts (omega (arith, first.0), first.1)

module _ (t : Task) (A : ℕ → Bool) where
  -- new values lie in the new size, which is at most the old one
  pub new_value_inside : (v value : ℕ) → value < size_of t v → new_value t A v value < new_size t A v
  unfolding new_value new_size named_count
  new_value_inside v value h =
      split (named t A v value)
      (λ n. rw n (omega (arith, count_strict (named t A v) (size_of t v) value h n)))
      (λ n.
      let over : any_below (size_of t v) (λ x. not (named t A v x)) ≡ true = any_below_intro (size_of t v) (λ x. not (named t A v x)) value h (rw n) in
      rw (n, over) (omega arith))

  pub new_size_most : (v : ℕ) → new_size t A v ≤ size_of t v
  unfolding new_size named_count
  new_size_most v =
      split (any_below (size_of t v) (λ x. not (named t A v x)))
      (λ e. rw e (omega (arith, count_fewer (named t A v) (size_of t v) e)))
      (λ e. rw e (omega (arith, count_most (size_of t v) (named t A v))))

  -- reduced pairs
  reduced_pairs_valid : (low : ℕ) (ps : List Pair) → valid_pairs t low ps ≡ true → valid_pairs (reduced_by t A) (new_variable t A low) (reduced_pairs t A ps) ≡ true
  unfolding reduced_pairs valid_pairs new_variable
  reduced_pairs_valid low [] e = refl
  reduced_pairs_valid low (p ∷ ps) e =
      let K = kept_variable t A in
      let v = p.variable in
      let first = simp facts at e in
      let next : v + 1 ≡ suc v = omega arith in
      let rest : valid_pairs (reduced_by t A) (count_below (suc v) K) (reduced_pairs t A ps) ≡ true
      = subst (λ (n : ℕ). valid_pairs (reduced_by t A) (count_below n K) (reduced_pairs t A ps) ≡ true) next (reduced_pairs_valid (v + 1) ps first.1.1.1) in
      cond_case
      (λ (l : List Pair). valid_pairs (reduced_by t A) (count_below low K) l ≡ true)
      (K v)
      (pair (new_variable t A v) (new_value t A v p.value) ∷ reduced_pairs t A ps)
      (reduced_pairs t A ps)
      (λ k.
      simp facts (
        count_mono K low v first.0,
        (
          new_variable_known t A v first.1.0 k,
          (
            subst⁻¹ (λ (n : ℕ). new_value t A v p.value < n) (reduced_size t A v first.1.0 k) (new_value_inside v p.value first.1.1.0),
            valid_pairs_lower (reduced_by t A) (new_variable t A v + 1) (count_below (suc v) K) (reduced_pairs t A ps) (omega (arith, bit_true (K v) k)) rest,
          ),
        ),
      ))
      (λ k. valid_pairs_lower (reduced_by t A) (count_below low K) (count_below (suc v) K) (reduced_pairs t A ps) (count_mono K low (suc v) (omega (arith, first.0))) rest)

  module _ (ok : Valid t) where
    -- a variable of one value is settled
    one_value_settled : (v : ℕ) → v < variable_count t → size_of t v ≤ 1 → settled t A v ≡ true
    unfolding settled threatened sets_other
    one_value_settled v known one =
        let start = ok.start v known in
        let others : ℕ → Bool = λ a. A a && sets_other (action_of t a).effects v (start_of t v) in
        and_join
        (all_below_intro (size_of t v) (λ x. not (named t A v x) || eqb x (start_of t v)) (λ x l. or_right (not (named t A v x)) (eq-eqb x (start_of t v) (omega arith))))
        (split (any_below (action_count t) others)
        (λ e.
        let r = any_below_elim (action_count t) others e in
        let other = any_fact (λ w d. eqb w v && not (eqb d (start_of t v))) (action_of t r.0).effects (and_split (A r.0) _ r.2).1 in
        let w = other.0 in
        let d = other.1 in
        let test = and_split (eqb w v) (not (eqb d (start_of t v))) other.3 in
        let inside = (fact_valid t 0 (action_of t r.0).effects w d (ok.action r.0).effects other.2).inside in
        absurd
        (eqb-false d (start_of t v) (not-true (eqb d (start_of t v)) test.1)
        (omega (arith, inside, ap (size_of t) (eqb-true w v test.0)))))
        (λ e. rw e))

    -- a kept variable has at least two values
    pub two_values : (v : ℕ) → v < variable_count t → kept_variable t A v ≡ true → 2 ≤ new_size t A v
    unfolding kept_variable has_named new_size named_count
    two_values v known kept =
        let K = named t A v in
        let both = and_split (any_below (size_of t v) K) (not (settled t A v)) kept in
        let first = any_below_elim (size_of t v) K both.0 in
        let some_named = count_strict K (size_of t v) first.0 first.1 first.2 in
        split_le (size_of t v) 1
        (λ one. clash (one_value_settled v known one) (not-true (settled t A v) both.1))
        (λ more.
        split (any_below (size_of t v) (λ x. not (K x)))
        (λ e. rw e (omega arith))
        (λ e. rw e (omega (arith, count_all K (size_of t v) e))))

    -- each part of the reduced task
    variable_valid : (v : ℕ) → v < variable_count t → kept_variable t A v ≡ true → valid_variable (variable_of (reduced_by t A) (new_variable t A v)) ≡ true
    unfolding valid_variable
    variable_valid v known kept =
        let size = reduced_size t A v known kept in
        let start = reduced_start t A v known kept in
        let inside = new_value_inside v (start_of t v) (ok.start v known) in
        simp facts (omega arith, (omega (arith, new_size_most v, ok.size_most v), omega arith))

    reduced_variables_valid : all_of valid_variable (reduced_by t A).variables ≡ true
    unfolding new_variable
    reduced_variables_valid =
        all_places valid_variable (reduced_by t A).variables (variable 0 0)
        (λ i l.
        let c = chosen (kept_variable t A) (variable_count t) i (omega (arith, reduced_variables t A)) in
        subst (λ (n : ℕ). valid_variable (variable_of (reduced_by t A) n) ≡ true) c.rank (variable_valid c.number c.below c.passes))

    pairs_valid : (ps : List Pair) → valid_pairs t 0 ps ≡ true → valid_pairs (reduced_by t A) 0 (reduced_pairs t A ps) ≡ true
    unfolding new_variable
    pairs_valid ps e = reduced_pairs_valid 0 ps e

    reduced_action_valid : (a : ℕ) → valid_action (reduced_by t A) (reduced_action t A (action_of t a)) ≡ true
    unfolding valid_action reduced_action
    reduced_action_valid a =
        let valid = ok.action a in
        simp facts (
          valid.cost,
          (
            omega (arith, reduced_pairs_few t A (action_of t a).conditions, valid.conditions_few),
            (
              omega (arith, reduced_pairs_few t A (action_of t a).effects, valid.effects_few),
              (pairs_valid (action_of t a).conditions valid.conditions, pairs_valid (action_of t a).effects valid.effects),
            ),
          ),
        )

    reduced_actions_valid : all_of (valid_action (reduced_by t A)) (reduced_by t A).actions ≡ true
    reduced_actions_valid =
        all_places (valid_action (reduced_by t A)) (reduced_by t A).actions (action 0 [] [])
        (λ i l.
        subst⁻¹ (λ (a : Action). valid_action (reduced_by t A) a ≡ true) (chosen_action (reduced_chooses t A) i l) (reduced_action_valid (original_of t A i)))

    reduced_goal_valid : valid_pairs (reduced_by t A) 0 (reduced_by t A).goal ≡ true
    unfolding reduced_by
    reduced_goal_valid = pairs_valid t.goal ok.goal

-- what the reduction of an accepted task leaves is accepted
pub reduced_accepted : (t : Task) (A : ℕ → Bool) → accepted_task t ≡ true → accepted_task (reduced_by t A) ≡ true
unfolding accepted_task
reduced_accepted t A e =
    let ok = task_valid t e in
    simp facts (
      omega (arith, reduced_variables_few t A, ok.variables_few),
      (
        omega (arith, reduced_actions_few t A, ok.actions_few),
        (
          reduced_variables_valid t A ok,
          (
            omega (arith, reduced_goal_few t A, ok.goal_few),
            (
              reduced_goal_valid t A ok,
              (reduced_actions_valid t A ok, omega (arith, reduced_file_length t A 1, ok.file)),
            ),
          ),
        ),
      ),
    )
