-- The weight of a variable: its size, less 1 where nothing names its last value. A kept variable weighs no more after a
-- turn, and where it weighs the same its values keep their numbers.
use Prim.Native.Nat.{ℕ, zero, suc, ◌+◌, ◌-◌, ◌≤◌, ◌<◌}
use mathlib.Core.Path.{◌≡◌, refl, sym, ap, ◌∙◌}
use mathlib.Core.Bool.{Bool, true, false, not, ◌&&◌}
use mathlib.Core.List.{List, [], ◌∷◌}
use mathlib.Core.Logic.{⊎_elim}
use native.Mathlib.Omega.{arith}
use lib.Dec.{leb}
use borrow.Author.Tests.{leb-true, le-leb, not-true}
use Rattle.files.specs.Below.{any_below, bit, count_below, sum_below}
use Rattle.files.specs.Task.{Pair, Action, Task, variable_count, action_count, action_of, size_of, fact_count}
use Rattle.files.proofs.Logic.{clash, split, split_le, and_split, and_join, or_split, or_left, or_right}
use Rattle.files.proofs.BelowLaws.{any_below_intro, any_below_elim, bit_true, bit_false, count_strict, chosen}
use Rattle.files.proofs.CountOrder.{count_most, sum_order}
use Rattle.files.proofs.Valid.{Valid}
use Rattle.plans.specs.State.{has_fact}
use Rattle.plans.proofs.AdmitsLaws.{admits_value}
use Rattle.plans.proofs.FactLaws.{fact_none, fact_here, fact_later, fact_cases}
use Rattle.reduction.specs.Named.{named, kept_variable}
use Rattle.reduction.specs.Renumber.{new_variable, named_count, new_value, new_size}
use Rattle.reduction.specs.ReducedBy.{reduced_pairs, reduced_action, reduced_by}
use Rattle.reduction.specs.Turns.{struck_to}
use Rattle.reduction.proofs.StruckCorresponds.{struck_chooses}
use Rattle.reduction.proofs.KeptActions.{original_of, reduced_chooses, chosen_count, original_known, original_kept, chosen_action, kept_action}
use Rattle.reduction.proofs.KeptVariables.{reduced_size}
use Rattle.reduction.proofs.KeptFacts.{NamedFacts, reduced_pair, new_variable_injective, goal_named, conditions_named}
use Rattle.reduction.proofs.ReducedValid.{count_all, count_fewer, two_values}

-- as many pass as there are: each passes, and each number is its own rank
pub full_passes : (K : ℕ → Bool) (n : ℕ) → n ≤ count_below n K → (i : ℕ) → i < n → K i ≡ true
full_passes K n full i h =
    split (K i) (λ k. k) (λ k. absurd (omega (arith, count_fewer K n (any_below_intro n (λ j. not (K j)) i h (rw k)))))

pub rank_own : (K : ℕ → Bool) (n : ℕ) → ((i : ℕ) → i < n → K i ≡ true) → count_below n K ≡ n
rank_own K zero h = refl
rank_own K (suc n) h = omega (arith, bit_true (K n) (h n (omega arith)), rank_own K n (λ i l. h i (omega arith)))

-- a value is named by the goal or by an action
abbrev named_by_any : Task → ℕ → ℕ → Bool
named_by_any t v value = named t (λ a. true) v value

-- a last value of at least two that nothing names
unfoldable pub last_spare : Task → ℕ → Bool
last_spare t v = leb 2 (size_of t v) && not (named_by_any t v (size_of t v - 1))

unfoldable pub weight : Task → ℕ → ℕ
weight t v = size_of t v - bit (last_spare t v)

-- actions plus weights
unfoldable pub measure : Task → ℕ
measure t = action_count t + sum_below (variable_count t) (weight t)

module _ (t : Task) where
  weight_most : (v : ℕ) → weight t v ≤ size_of t v
  unfolding weight
  weight_most v = omega arith

  pub measure_most : measure t ≤ action_count t + fact_count t
  unfolding measure
  measure_most = omega (arith, sum_order (variable_count t) (weight t) (size_of t) (λ v l. weight_most v))

  -- the weight is one less than the size, or the size
  weight_cases {ℓ} : {X : Type ℓ} (v : ℕ)
      → ((last : ℕ) → size_of t v ≡ suc last → 1 ≤ last → named_by_any t v last ≡ false → weight t v ≡ last → X)
      → (weight t v ≡ size_of t v → X)
      → X
  unfolding weight last_spare
  weight_cases v spare whole =
      split (last_spare t v)
      (λ e.
      let both = and_split (leb 2 (size_of t v)) (not (named_by_any t v (size_of t v - 1))) e in
      let two = leb-true 2 (size_of t v) both.0 in
      spare (size_of t v - 1) (omega arith) (omega arith) (not-true _ both.1) (omega (arith, bit_true (last_spare t v) e)))
      (λ e. whole (omega (arith, bit_false (last_spare t v) e)))

  pub weight_least : (v : ℕ) → 1 ≤ size_of t v → 1 ≤ weight t v
  weight_least v some = weight_cases v (λ last size two free e. omega arith) (λ e. omega arith)

  weight_spare : (v last : ℕ) → size_of t v ≡ suc last → 1 ≤ last → named_by_any t v last ≡ false → weight t v ≡ last
  unfolding weight last_spare
  weight_spare v last size two free =
      let place : size_of t v - 1 ≡ last = omega arith in
      omega (arith, bit_true (last_spare t v) (and_join (le-leb 2 (size_of t v) (omega arith)) (rw (place, free))))

  -- what some actions name, all name
  named_any : (A : ℕ → Bool) (v value : ℕ) → named t A v value ≡ true → named_by_any t v value ≡ true
  unfolding named
  named_any A v value e =
      ⊎_elim
      (λ goal. or_left _ goal)
      (λ asked.
      let asks : ℕ → Bool = λ a. A a && has_fact (action_of t a).conditions v value in
      let r = any_below_elim (action_count t) asks asked in
      or_right (has_fact t.goal v value)
      (any_below_intro (action_count t) (λ a. true && has_fact (action_of t a).conditions v value) r.0 r.1 (and_split (A r.0) _ r.2).1))
      (or_split (has_fact t.goal v value) _ e)

module _ (t : Task) (ok : Valid t) (A R : ℕ → Bool) where
  abbrev struck : Task
  struck = struck_to (reduced_by t A) R

  -- reduced conditions ask for new numbers of named values
  reduced_fact : (ps : List Pair) → NamedFacts t A ps → (v d : ℕ) → kept_variable t A v ≡ true
      → has_fact (reduced_pairs t A ps) (new_variable t A v) d ≡ true
      → d < named_count t A v
  unfolding reduced_pairs new_value named_count
  reduced_fact [] n v d kv h = clash h (fact_none (new_variable t A v) d)
  reduced_fact (p ∷ ps) n v d kv h =
      let later : has_fact (reduced_pairs t A ps) (new_variable t A v) d ≡ true → d < named_count t A v
      = reduced_fact ps (λ w x f. n w x (fact_later p ps w x f)) v d kv in
      split (kept_variable t A p.variable)
      (λ k.
      ⊎_elim
      (λ here.
      let same = new_variable_injective t A p.variable v k kv here.0 in
      let fact = n p.variable p.value (fact_here p ps) in
      let value : new_value t A p.variable p.value ≡ count_below p.value (named t A p.variable) = rw fact.0 in
      omega (
        arith,
        sym value ∙ admits_value (reduced_pair t A p) d here.1,
        count_strict (named t A p.variable) (size_of t p.variable) p.value fact.1.inside fact.0,
        ap (named_count t A) same,
      ))
      later
      (fact_cases (reduced_pair t A p) (reduced_pairs t A ps) (new_variable t A v) d (rw k at h)))
      (λ k. later (rw k at h))

  -- an action of the struck task is the reduced one of a kept action
  struck_from : (i : ℕ) → i < action_count struck → (a : ℕ) × (a < action_count t) × (A a ≡ true) × (action_of struck i ≡ reduced_action t A (action_of t a))
  struck_from i h =
      let r = reduced_by t A in
      let c = chosen R (action_count r) i (omega (arith, chosen_count (struck_chooses r R))) in
      let n = c.number in (
        original_of t A n,
        original_known (reduced_chooses t A) n c.below,
        original_kept (reduced_chooses t A) n c.below,
        ap (action_of struck) (sym c.rank) ∙ kept_action (struck_chooses r R) n c.below c.passes ∙ chosen_action (reduced_chooses t A) n c.below,
      )

  -- so the struck task names new numbers of named values alone
  struck_named : (v d : ℕ) → kept_variable t A v ≡ true → named_by_any struck (new_variable t A v) d ≡ true → d < named_count t A v
  unfolding named struck_to reduced_by reduced_action
  struck_named v d kv e =
      let w = new_variable t A v in
      ⊎_elim
      (λ goal. reduced_fact t.goal (goal_named t A ok) v d kv goal)
      (λ asked.
      let found = any_below_elim (action_count struck) (λ a. true && has_fact (action_of struck a).conditions w d) asked in
      let from = struck_from found.0 found.1 in
      reduced_fact (action_of t from.0).conditions (conditions_named t A ok from.0 from.1 from.2) v d kv
      (ap (λ (a : Action). has_fact a.conditions w d) (sym from.3) ∙ found.2))
      (or_split (has_fact (reduced_pairs t A t.goal) w d) _ e)

  struck_size : (v : ℕ) → v < variable_count t → kept_variable t A v ≡ true → size_of struck (new_variable t A v) ≡ new_size t A v
  unfolding struck_to
  struck_size v known kv = reduced_size t A v known kv

  -- where all values below a bound are named, they keep their numbers
  named_own : (v n d : ℕ) → n ≤ count_below n (named t A v) → d < n → new_value t A v d ≡ d
  unfolding new_value
  named_own v n d full h =
      let passes = full_passes (named t A v) n full in
      rw (passes d h) (rank_own (named t A v) d (λ i l. passes i (omega arith)))

  module _ (v : ℕ) (known : v < variable_count t) (kv : kept_variable t A v ≡ true) where
    abbrev K : ℕ → Bool
    K = named t A v

    abbrev now : ℕ
    now = weight struck (new_variable t A v)

    abbrev Own : Type 0
    Own = (d : ℕ) → d < size_of t v → new_value t A v d ≡ d

    -- one value or more is not named
    left_over : any_below (size_of t v) (λ d. not (K d)) ≡ true → (now ≤ weight t v) × (weight t v ≤ now → Own)
    unfolding new_size named_count new_value
    left_over e =
        let c = count_below (size_of t v) K in
        let size : new_size t A v ≡ suc c = rw e (omega arith) in
        let two = two_values t A ok v known kv in
        let free = split (named_by_any struck (new_variable t A v) c) (λ n. absurd (omega (arith, struck_named v c kv n))) (λ n. n) in
        let light : now ≡ c = weight_spare struck (new_variable t A v) c (struck_size v known kv ∙ size) (omega arith) free in
        weight_cases t v
        (λ last was two_or_more unnamed heavy.
        let off : K last ≡ false = split (K last) (λ n. clash (named_any t A v last n) unnamed) (λ n. n) in
        let rest : c ≡ count_below last K = ap (λ (n : ℕ). count_below n K) was ∙ omega (arith, bit_false (K last) off) in (
          omega (arith, count_most last K),
          (λ h d l.
              split_le last d
              (λ m.
              let here : d ≡ last = omega arith in
              let value : new_value t A v last ≡ c = rw off in
              ap (new_value t A v) here ∙ value ∙ omega (arith, count_most last K))
              (λ m. named_own v last d (omega arith) m)),
        ))
        (λ heavy. let few = count_fewer K (size_of t v) e in (omega arith, (λ h. absurd (omega arith))))

    -- every value is named
    all_named : any_below (size_of t v) (λ d. not (K d)) ≡ false → (now ≤ weight t v) × (weight t v ≤ now → Own)
    unfolding new_size named_count
    all_named e =
        let full = count_all K (size_of t v) e in
        let size : new_size t A v ≡ size_of t v = rw e (omega arith) in
        weight_cases t v
        (λ last was two_or_more unnamed heavy.
        clash (named_any t A v last (full_passes K (size_of t v) (omega arith) last (omega arith))) unnamed)
        (λ heavy. (
          omega (arith, weight_most struck (new_variable t A v), struck_size v known kv),
          (λ h d l. named_own v (size_of t v) d (omega arith) l),
        ))

    kept_weight : (now ≤ weight t v) × (weight t v ≤ now → Own)
    kept_weight = split (any_below (size_of t v) (λ d. not (K d))) left_over all_named

    -- a kept variable weighs no more
    pub kept_falls : weight (struck_to (reduced_by t A) R) (new_variable t A v) ≤ weight t v
    kept_falls = kept_weight.0

    -- and where it weighs the same every value keeps its number
    pub kept_leaves : weight t v ≤ weight (struck_to (reduced_by t A) R) (new_variable t A v) → (d : ℕ) → d < size_of t v → new_value t A v d ≡ d
    kept_leaves = kept_weight.1
