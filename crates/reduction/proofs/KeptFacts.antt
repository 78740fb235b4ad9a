-- What the kept actions ask is named, dropped variables keep their start value, and new numbers tell kept facts apart: by
-- them a condition admits the same values.
use Prim.Native.Nat.{ℕ, ◌<◌}
use mathlib.Core.Path.{◌≡◌, refl, sym, ap, ◌∙◌}
use mathlib.Core.Bool.{Bool, true, false, not, ◌&&◌, ◌||◌}
use mathlib.Core.List.{List, [], ◌∷◌}
use mathlib.Core.Option.{some, map}
use native.Mathlib.Omega.{arith}
use lib.Dec.{eqb}
use borrow.Author.Tests.{eqb-true, eqb-false, eq-eqb, ne_eqb, not-true}
use Rattle.files.specs.Below.{all_below, count_below}
use Rattle.files.specs.Task.{Pair, Task, pair, variable_count, action_count, action_of, size_of, start_of, value_in}
use Rattle.files.proofs.Logic.{clash, split, and_split, and_join, or_left, or_right}
use Rattle.files.proofs.BelowLaws.{any_below_intro, all_below_elim, count_strict, rank_injective}
use Rattle.files.proofs.Valid.{Valid}
use Rattle.plans.specs.State.{admits, has_fact}
use Rattle.plans.proofs.AdmitsLaws.{admits_some, admits_renumbered}
use Rattle.plans.proofs.FactLaws.{FactValid, fact_first, fact_valid}
use Rattle.marking.proofs.LinkLaws.{unthreatened_effect}
use Rattle.marking.specs.Links.{threatened}
use Rattle.reduction.specs.Named.{named, has_named, settled, kept_variable}
use Rattle.reduction.specs.Renumber.{new_variable, named_count, new_value}
use Rattle.reduction.specs.ReducedBy.{reduced_pairs}

module _ (t : Task) (A : ℕ → Bool) where
  -- a settled variable: its named facts are its start fact, and it is unthreatened
  settled_parts : (v : ℕ) → settled t A v ≡ true → ((value : ℕ) → value < size_of t v → named t A v value ≡ true → value ≡ start_of t v) × (threatened t A v ≡ false)
  unfolding settled
  settled_parts v e =
      let starts : ℕ → Bool = λ value. not (named t A v value) || eqb value (start_of t v) in
      let both = and_split (all_below (size_of t v) starts) (not (threatened t A v)) e in (
        (λ value inside n.
            let this : starts value ≡ true = all_below_elim (size_of t v) starts both.0 value inside in
            eqb-true value (start_of t v) (rw n at this)),
        not-true (threatened t A v) both.1,
      )

  pub settled_start : (a v value : ℕ) → settled t A v ≡ true → a < action_count t → A a ≡ true → value_in (action_of t a).effects v ≡ some value → value ≡ start_of t v
  settled_start a v value e known kept sets = unthreatened_effect t A a v value (settled_parts v e).1 known kept sets

  -- a named fact of a dropped variable is its start fact, and the variable is settled
  pub dropped_start : (v value : ℕ) → named t A v value ≡ true → value < size_of t v → kept_variable t A v ≡ false → (settled t A v ≡ true) × (value ≡ start_of t v)
  unfolding kept_variable has_named
  dropped_start v value n inside dropped =
      let some_named = any_below_intro (size_of t v) (named t A v) value inside n in
      let e : settled t A v ≡ true = split (settled t A v) (λ z. z) (λ z. clash (and_join some_named (rw z)) dropped) in
      (e, (settled_parts v e).0 value inside n)

  -- a value with the new number of a named value is that value
  pub new_value_injective : (v value other : ℕ) → named t A v value ≡ true → value < size_of t v → new_value t A v other ≡ new_value t A v value → other ≡ value
  unfolding new_value named_count
  new_value_injective v value other n inside same =
      let to : new_value t A v value ≡ count_below value (named t A v) = rw n in
      split (named t A v other)
      (λ m. rank_injective (named t A v) other value m n (let from : new_value t A v other ≡ count_below other (named t A v) = rw m in sym from ∙ same ∙ to))
      (λ m.
      absurd
      (let from : new_value t A v other ≡ count_below (size_of t v) (named t A v) = rw m in
      omega (arith, sym from ∙ same ∙ to, count_strict (named t A v) (size_of t v) value inside n)))

  pub new_variable_injective : (u v : ℕ) → kept_variable t A u ≡ true → kept_variable t A v ≡ true → new_variable t A u ≡ new_variable t A v → u ≡ v
  unfolding new_variable
  new_variable_injective u v ku kv e = rank_injective (kept_variable t A) u v ku kv e

  -- what reduced effects set a kept variable to
  pub reduced_value : (effects : List Pair) (v : ℕ) → kept_variable t A v ≡ true → value_in (reduced_pairs t A effects) (new_variable t A v) ≡ map (new_value t A v) (value_in effects v)
  unfolding reduced_pairs
  reduced_value [] v kv = refl
  reduced_value (p ∷ ps) v kv =
      split (kept_variable t A p.variable)
      (λ k.
      split (eqb p.variable v)
      (λ e.
      let same : p.variable ≡ v = eqb-true p.variable v e in
      let new : eqb (new_variable t A p.variable) (new_variable t A v) ≡ true = eq-eqb _ _ (ap (new_variable t A) same) in
      rw (k, e, new) (ap (λ (u : ℕ). some (new_value t A u p.value)) same))
      (λ e.
      let new : eqb (new_variable t A p.variable) (new_variable t A v) ≡ false
      = ne_eqb _ _ (λ q. eqb-false p.variable v e (new_variable_injective p.variable v k kv q)) in
      rw (k, e, new) (reduced_value ps v kv)))
      (λ k.
      let e : eqb p.variable v ≡ false = ne_eqb p.variable v (λ q. clash (ap (kept_variable t A) q ∙ kv) k) in
      rw (k, e) (reduced_value ps v kv))

  -- conditions that admit named values of the task alone
  abbrev pub NamedFacts : List Pair → Type 0
  NamedFacts pairs = (v value : ℕ) → has_fact pairs v value ≡ true → (named t A v value ≡ true) × FactValid t 0 v value

  pub goal_named : Valid t → NamedFacts t.goal
  unfolding named
  goal_named ok v value h = (or_left _ h, fact_valid t 0 t.goal v value ok.goal h)

  pub conditions_named : Valid t → (a : ℕ) → a < action_count t → A a ≡ true → NamedFacts (action_of t a).conditions
  unfolding named
  conditions_named ok a known kept v value h = (
    or_right (has_fact t.goal v value)
        (any_below_intro (action_count t) (λ b. A b && has_fact (action_of t b).conditions v value) a known (and_join kept h)),
    fact_valid t 0 (action_of t a).conditions v value (ok.action a).conditions h,
  )

  abbrev pub reduced_pair : Pair → Pair
  reduced_pair p = pair (new_variable t A p.variable) (new_value t A p.variable p.value)

  -- the first of such conditions: on a kept variable it admits the new numbers of the values that it admits; a dropped
  -- variable is settled, and it admits the start value
  module _ (p : Pair) (ps : List Pair) (n : NamedFacts (p ∷ ps)) where
    first_named : (value : ℕ) → admits p value ≡ true → (named t A p.variable value ≡ true) × FactValid t 0 p.variable value
    first_named value e = n p.variable value (fact_first p ps value e)

    pub first_known : p.variable < variable_count t
    first_known = let some_value = admits_some p in (first_named some_value.0 some_value.1).1.known

    pub reduced_pair_admits : (value : ℕ) → admits (reduced_pair p) (new_value t A p.variable value) ≡ admits p value
    reduced_pair_admits value =
        admits_renumbered p (new_variable t A p.variable) (new_value t A p.variable) value
        (λ d e same. let fact = first_named d e in new_value_injective p.variable d value fact.0 fact.1.inside same)

    pub dropped_admits : kept_variable t A p.variable ≡ false → (settled t A p.variable ≡ true) × (admits p (start_of t p.variable) ≡ true)
    dropped_admits k =
        let some_value = admits_some p in
        let fact = first_named some_value.0 some_value.1 in
        let start = dropped_start p.variable some_value.0 fact.0 fact.1.inside k in
        (start.0, sym (ap (admits p) start.1) ∙ some_value.1)
