-- Named facts, changed and kept variables, and new numbers, by the cells of arrays that hold an accepted task.
use Prim.Native.Nat.{ℕ, zero, suc, ◌+◌, ◌*◌, ◌≤◌, ◌<◌}
use mathlib.Core.Path.{◌≡◌, refl, sym, ap, ap₂, ◌∙◌}
use mathlib.Core.Bool.{Bool, true, false, not, cond, ◌&&◌, ◌||◌}
use mathlib.Core.List.{List}
use mathlib.Core.Logic.{⊎_elim}
use native.Mathlib.Omega.{arith}
use lib.Dec.{eqb, ltb}
use lib.ListN.{get_or}
use borrow.Author.Tests.{eqb-true, lt-ltb, ltb-true}
use Rattle.files.specs.Below.{any_below, all_below, bit, count_below}
use Rattle.files.specs.Dense.{held}
use Rattle.files.specs.declared.arrays.Arrays.{Arrays}
use Rattle.files.specs.Task.{Pair, action_of, size_of, start_of}
use Rattle.files.proofs.BelowLaws.{any_below_elim, bit_false, bit_most}
use Rattle.files.proofs.Filling.{zeros_entry}
use Rattle.files.proofs.Logic.{clash, split, split_le, and_split, or_split}
use Rattle.files.proofs.Valid.{Valid}
use Rattle.plans.specs.State.{has_fact}
use Rattle.plans.proofs.FactLaws.{fact_valid}
use Rattle.marking.specs.Links.{threatened}
use Rattle.marking.specs.Dense.{is_marked, differ, other_than, threatens, threatens_anew, row_names, names_anew}
use Rattle.files.proofs.HeldTask.{actions_held, size_held, start_held, goal_held, conditions_held, effect_at, condition_valid, goal_valid}
use Rattle.marking.proofs.HeldMarks.{threatened_held}
use Rattle.marking.proofs.RoundFacts.{named_inside, names_held}
use Rattle.files.proofs.Truth.{same_truth, any_same, any_bound, all_any, count_none, bit_marked, bit_empty, marked_bit}
use Rattle.reduction.specs.Dense.{unmarked, named_at, changed_at, named_value, named_in, other_named, keeps_at, new_value_at, new_size_at}
use Rattle.reduction.specs.Named.{named, has_named, settled, kept_variable}
use Rattle.reduction.specs.Renumber.{named_count, new_value, new_size}

-- a mark that is not 0 is 1
not_empty : (n : ℕ) → n ≤ 1 → not (eqb n 0) ≡ eqb n 1
not_empty n h = ap (λ (k : ℕ). not (eqb k 0)) (marked_bit n h) ∙ ap not (bit_empty (eqb n 1)) ∙ twice (eqb n 1)
  where
    twice : (b : Bool) → not (not b) ≡ b
    twice true = refl
    twice false = refl

-- counts that agree, and counts up to a smaller bound
pub count_alike : (n : ℕ) (f g : ℕ → Bool) → ((i : ℕ) → i < n → f i ≡ g i) → count_below n f ≡ count_below n g
count_alike zero f g h = refl
count_alike (suc n) f g h = ap₂ (λ (b : Bool) (k : ℕ). bit b + k) (h n (omega arith)) (count_alike n f g (λ i l. h i (omega arith)))

count_bound : (m n : ℕ) (f : ℕ → Bool) → m ≤ n → ((i : ℕ) → i < n → m ≤ i → f i ≡ false) → count_below n f ≡ count_below m f
count_bound m zero f h past = let e : m ≡ 0 = omega arith in rw e refl
count_bound m (suc n) f h past =
    split_le (suc n) m
    (λ l. let is : suc n ≡ m = omega arith in ap (λ (k : ℕ). count_below k f) is)
    (λ l. omega (arith, bit_false (f n) (past n (omega arith) (omega arith)), count_bound m n f (omega arith) (λ i b k. past i (omega arith) k)))

-- some fail exactly where not all are counted
count_parts : (n : ℕ) (f : ℕ → Bool) → count_below n f + count_below n (λ i. not (f i)) ≡ n
count_parts zero f = refl
count_parts (suc n) f = split (f n) (λ e. rw e (omega (arith, count_parts n f))) (λ e. rw e (omega (arith, count_parts n f)))

count_short : (n : ℕ) (f : ℕ → Bool) → ltb (count_below n f) n ≡ any_below n (λ i. not (f i))
count_short n f =
    same_truth _ _
    (λ e.
    split (any_below n (λ i. not (f i)))
    (λ q. q)
    (λ q.
    let none : count_below n (λ i. not (f i)) ≡ 0 = eqb-true (count_below n (λ i. not (f i))) 0 (count_none n (λ i. not (f i)) ∙ ap not q) in
    absurd (omega (arith, ltb-true (count_below n f) n e, count_parts n f))))
    (λ e.
    lt-ltb (count_below n f) n
    (split (eqb (count_below n (λ i. not (f i))) 0)
    (λ q. clash e (from_not (sym (count_none n (λ i. not (f i))) ∙ q)))
    (λ q. omega (arith, count_parts n f, positive (count_below n (λ i. not (f i))) q))))
  where
    from_not : {b : Bool} → not b ≡ true → b ≡ false
    from_not {b = true} e = sym e
    from_not {b = false} e = refl

    positive : (k : ℕ) → eqb k 0 ≡ false → 0 < k
    positive zero q = clash refl q
    positive (suc k) q = omega arith

module _ (d : Arrays) (ok : Valid (held d)) (kept : List ℕ) (A : ℕ → Bool) (bits : (a : ℕ) → a < d.actions → get_or kept a 0 ≡ bit (A a)) where
  -- an action is new beside no marks where it is kept
  kept_new : (a : ℕ) → a < d.actions → differ kept unmarked a ≡ A a
  kept_new a l =
      ap₂ (λ (x y : ℕ). not (eqb x y)) (bits a l) (zeros_entry 512 a)
      ∙ not_empty (bit (A a)) (bit_most (A a))
      ∙ bit_marked (A a)

  asked : ℕ → ℕ → Bool
  asked v e = any_below d.actions (λ a. A a && has_fact (action_of (held d) a).conditions v e)

  named_says : (v e : ℕ) → named (held d) A v e ≡ has_fact (held d).goal v e || asked v e
  unfolding named asked
  named_says v e = ap (λ (n : ℕ). has_fact (held d).goal v e || any_below n (λ a. A a && has_fact (action_of (held d) a).conditions v e)) (actions_held d)

  goal_place_lem : (v e : ℕ) → v < d.variables → e < size_of (held d) v → row_names false d.goal 0 d.sizes d.variables (32 * v + e) ≡ has_fact (held d).goal v e
  goal_place_lem v e h k = names_held d ok false d.goal 0 (goal_valid d ok) v e h k ∙ ap (λ (ps : List Pair). has_fact ps v e) (sym (goal_held d))

  action_place_lem : (v e : ℕ) → v < d.variables → e < size_of (held d) v → names_anew false d.conditions d.sizes d.variables kept unmarked d.actions (32 * v + e) ≡ asked v e
  unfolding names_anew asked
  action_place_lem v e h k =
      any_same d.actions (λ a. differ kept unmarked a && row_names false d.conditions (64 * a) d.sizes d.variables (32 * v + e)) (λ a. A a && has_fact (action_of (held d) a).conditions v e)
      (λ a l.
      ap₂ (λ (x y : Bool). x && y) (kept_new a l)
      (names_held d ok false d.conditions (64 * a) (λ w i. condition_valid d ok a w l i) v e h k
      ∙ ap (λ (ps : List Pair). has_fact ps v e) (sym (conditions_held d a l))))

  -- a place that is named is a fact of the task
  place_inside : (v e : ℕ) → e < 32 → named_at d.goal d.conditions d.sizes kept d.variables d.actions (32 * v + e) ≡ true → (v < d.variables) × (e < size_of (held d) v)
  unfolding named_at names_anew
  place_inside v e k q =
      ⊎_elim
      (λ x.
      let found = any_below_elim d.actions (λ a. differ kept unmarked a && row_names false d.conditions (64 * a) d.sizes d.variables (32 * v + e)) x in
      named_inside d ok false d.conditions (64 * found.0) (λ w i. condition_valid d ok found.0 w found.1 i) v e k
      (and_split (differ kept unmarked found.0) (row_names false d.conditions (64 * found.0) d.sizes d.variables (32 * v + e)) found.2).1)
      (λ x. named_inside d ok false d.goal 0 (goal_valid d ok) v e k x)
      (or_split (any_below d.actions (λ a. differ kept unmarked a && row_names false d.conditions (64 * a) d.sizes d.variables (32 * v + e))) (row_names false d.goal 0 d.sizes d.variables (32 * v + e)) q)

  named_fact_inside : (v e : ℕ) → named (held d) A v e ≡ true → e < size_of (held d) v
  unfolding asked
  named_fact_inside v e q =
      ⊎_elim
      (λ x. (fact_valid (held d) 0 (held d).goal v e ok.goal x).inside)
      (λ x.
      let found = any_below_elim d.actions (λ a. A a && has_fact (action_of (held d) a).conditions v e) x in
      (fact_valid (held d) 0 (action_of (held d) found.0).conditions v e (ok.action found.0).conditions (and_split (A found.0) (has_fact (action_of (held d) found.0).conditions v e) found.2).1).inside)
      (or_split (has_fact (held d).goal v e) (asked v e) (sym (named_says v e) ∙ q))

  swap : (a b : Bool) → a || b ≡ b || a
  swap true true = refl
  swap true false = refl
  swap false true = refl
  swap false false = refl

  pub named_held : (v e : ℕ) → v < d.variables → e < 32 → named_at d.goal d.conditions d.sizes kept d.variables d.actions (32 * v + e) ≡ named (held d) A v e
  unfolding named_at
  named_held v e h k =
      split_le (size_of (held d) v) e
      (λ past.
      same_truth _ _
      (λ q. absurd (omega (arith, (place_inside v e k q).1)))
      (λ q. absurd (omega (arith, named_fact_inside v e q))))
      (λ inside.
      ap₂ (λ (x y : Bool). x || y) (action_place_lem v e h inside) (goal_place_lem v e h inside)
      ∙ swap (asked v e) (has_fact (held d).goal v e)
      ∙ sym (named_says v e))

  pub changed_held : (v : ℕ) → v < d.variables → changed_at d.effects d.starts kept d.variables d.actions v ≡ threatened (held d) A v
  unfolding changed_at threatens_anew threatens
  changed_held v h =
      any_same d.actions (λ a. differ kept unmarked a && (ltb v d.variables && other_than (effect_at d a v) (get_or d.starts v 0))) (λ a. A a && other_than (effect_at d a v) (get_or d.starts v 0))
      (λ a l. ap₂ (λ (x y : Bool). x && (y && other_than (effect_at d a v) (get_or d.starts v 0))) (kept_new a l) (lt-ltb v d.variables h))
      ∙ sym (threatened_held d A v h)

  -- by arrays of marks
  module _ (marks changed : List ℕ)
      (fact : (v e : ℕ) → v < d.variables → e < 32 → named_value marks v e ≡ named (held d) A v e)
      (change : (v : ℕ) → v < d.variables → is_marked changed v ≡ threatened (held d) A v) where
    none_past : (v : ℕ) → v < d.variables → (e : ℕ) → e < 32 → size_of (held d) v ≤ e → named_value marks v e ≡ false
    none_past v h e k past = split (named_value marks v e) (λ q. absurd (omega (arith, named_fact_inside v e (sym (fact v e h k) ∙ q)))) (λ q. q)

    pub named_in_held : (v : ℕ) → v < d.variables → named_in marks v ≡ named_count (held d) A v
    unfolding named_in named_count
    named_in_held v h =
        count_bound (size_of (held d) v) 32 (named_value marks v) (ok.size_most v) (none_past v h)
        ∙ count_alike (size_of (held d) v) (named_value marks v) (named (held d) A v) (λ e k. fact v e h (omega (arith, ok.size_most v)))

    has_held : (v : ℕ) → v < d.variables → not (eqb (named_in marks v) 0) ≡ has_named (held d) A v
    unfolding named_in has_named
    has_held v h =
        ap not (count_none 32 (named_value marks v))
        ∙ twice (any_below 32 (named_value marks v))
        ∙ any_same 32 (named_value marks v) (named (held d) A v) (λ e k. fact v e h k)
        ∙ any_bound (size_of (held d) v) 32 (named (held d) A v) (ok.size_most v) (λ e k q. named_fact_inside v e q)
      where
        twice : (b : Bool) → not (not b) ≡ b
        twice true = refl
        twice false = refl

    other_held : (v : ℕ) → v < d.variables → other_named marks (get_or d.starts v 0) v ≡ not (all_below (size_of (held d) v) (λ e. not (named (held d) A v e) || eqb e (start_of (held d) v)))
    unfolding other_named
    other_held v h =
        any_same 32 (λ e. named_value marks v e && not (eqb e (get_or d.starts v 0))) (λ e. not (not (named (held d) A v e) || eqb e (start_of (held d) v)))
        (λ e k.
        ap₂ (λ (x : Bool) (s : ℕ). x && not (eqb e s)) (fact v e h k) (sym (start_held d v h))
        ∙ neither (named (held d) A v e) (eqb e (start_of (held d) v)))
        ∙ any_bound (size_of (held d) v) 32 (λ e. not (not (named (held d) A v e) || eqb e (start_of (held d) v))) (ok.size_most v)
        (λ e k q. named_fact_inside v e (first (named (held d) A v e) (eqb e (start_of (held d) v)) q))
        ∙ sym (ap not (all_any (size_of (held d) v) (λ e. not (named (held d) A v e) || eqb e (start_of (held d) v))) ∙ twice (any_below (size_of (held d) v) (λ e. not (not (named (held d) A v e) || eqb e (start_of (held d) v)))))
      where
        neither : (x y : Bool) → x && not y ≡ not (not x || y)
        neither true y = refl
        neither false y = refl

        first : (x y : Bool) → not (not x || y) ≡ true → x ≡ true
        first true y q = refl
        first false y q = q

        twice : (b : Bool) → not (not b) ≡ b
        twice true = refl
        twice false = refl

    pub keeps_held : (v : ℕ) → v < d.variables → keeps_at marks changed d.starts v ≡ kept_variable (held d) A v
    unfolding keeps_at kept_variable settled
    keeps_held v h =
        ap₂ (λ (x y : Bool). x && y) (has_held v h)
        (ap₂ (λ (x y : Bool). x || y) (change v h) (other_held v h)
        ∙ moved (threatened (held d) A v) (all_below (size_of (held d) v) (λ e. not (named (held d) A v e) || eqb e (start_of (held d) v))))
      where
        moved : (t a : Bool) → t || not a ≡ not (a && not t)
        moved true true = refl
        moved true false = refl
        moved false true = refl
        moved false false = refl

    pub new_value_held : (v e : ℕ) → v < d.variables → e < size_of (held d) v → new_value_at marks v e ≡ new_value (held d) A v e
    unfolding new_value_at new_value
    new_value_held v e h k =
        let small : e < 32 = omega (arith, ok.size_most v) in
        let before : count_below e (named_value marks v) ≡ count_below e (named (held d) A v) = count_alike e (named_value marks v) (named (held d) A v) (λ i l. fact v i h (omega arith)) in
        let all : named_in marks v ≡ named_count (held d) A v = named_in_held v h in
        (λ i. cond (fact v e h small i) (before i) (all i))

    pub new_size_held : (v : ℕ) → v < d.variables → new_size_at marks v (get_or d.sizes v 0) ≡ new_size (held d) A v
    unfolding new_size_at new_size named_count
    new_size_held v h =
        ap₂ (λ (n s : ℕ). n + bit (ltb n s)) (named_in_held v h) (sym (size_held d v h))
        ∙ ap (λ (b : Bool). count_below (size_of (held d) v) (named (held d) A v) + bit b) (count_short (size_of (held d) v) (named (held d) A v))
