-- States by variable: what conditions that hold say of a state, and the value after an action.
use Prim.Native.Nat.{ℕ}
use mathlib.Core.Path.{◌≡◌, refl, sym, ap, ◌∙◌}
use mathlib.Core.Bool.{Bool, true}
use mathlib.Core.List.{List, [], ◌∷◌}
use mathlib.Core.Logic.{⊎_elim}
use mathlib.Core.Option.{Option, none, some, get_or}
use Rattle.files.specs.Below.{all_of}
use Rattle.files.specs.Task.{Pair, Action, value_in}
use Rattle.files.proofs.Logic.{clash, and_split, and_join}
use Rattle.plans.specs.State.{State, admits, holds, all_hold, has_fact, apply}
use Rattle.plans.proofs.FactLaws.{fact_first, fact_later, fact_none, fact_cases}

-- one condition: in states with the same value of its variable, and the fact by which it holds
pub holds_same : (c : Pair) (s r : State) → r c.variable ≡ s c.variable → holds c r ≡ holds c s
unfolding holds
holds_same c s r e = ap (admits c) e

pub holds_fact : (c : Pair) (cs : List Pair) (s : State) → holds c s ≡ true → has_fact (c ∷ cs) c.variable (s c.variable) ≡ true
unfolding holds
holds_fact c cs s e = fact_first c cs (s c.variable) e

-- all hold where each one holds that passes a test, and all pass it
pub each_all_hold : (test : Pair → Bool) (conditions : List Pair) (s : State) → ((c : Pair) → test c ≡ true → holds c s ≡ true) → all_of test conditions ≡ true → all_hold conditions s ≡ true
unfolding all_hold
each_all_hold test [] s h e = refl
each_all_hold test (c ∷ cs) s h e =
    let both = and_split (test c) (all_of test cs) e in
    and_join (h c both.0) (each_all_hold test cs s h both.1)

-- where all hold, one that admits a fact of theirs admits the state's value too
pub all_hold_each : (conditions : List Pair) (s : State) (v d : ℕ) → all_hold conditions s ≡ true → has_fact conditions v d ≡ true → (c : Pair) × (admits c d ≡ true) × (admits c (s v) ≡ true)
unfolding all_hold holds
all_hold_each [] s v d e h = clash h (fact_none v d)
all_hold_each (c ∷ cs) s v d e h =
    let both = and_split (holds c s) (all_hold cs s) e in
    ⊎_elim
    (λ here. (c, here.1, sym (ap (λ (u : ℕ). admits c (s u)) here.0) ∙ both.0))
    (λ later. all_hold_each cs s v d both.1 later)
    (fact_cases c cs v d h)

-- they hold in any state that has the same value where they admit it
pub all_hold_carries : (conditions : List Pair) (s r : State) → all_hold conditions s ≡ true → ((v : ℕ) → has_fact conditions v (s v) ≡ true → r v ≡ s v) → all_hold conditions r ≡ true
unfolding all_hold
all_hold_carries [] s r e same = refl
all_hold_carries (c ∷ cs) s r e same =
    let both = and_split (holds c s) (all_hold cs s) e in
    and_join
    (holds_same c s r (same c.variable (holds_fact c cs s both.0)) ∙ both.0)
    (all_hold_carries cs s r both.1 (λ v h. same v (fact_later c cs v (s v) h)))

-- a variable that the action sets, and one that it leaves
pub apply_sets : (a : Action) (s : State) (v value : ℕ) → value_in a.effects v ≡ some value → apply a s v ≡ value
unfolding apply
apply_sets a s v value e = ap (λ (o : Option ℕ). get_or o (s v)) e

pub apply_leaves : (a : Action) (s : State) (v : ℕ) → value_in a.effects v ≡ none → apply a s v ≡ s v
unfolding apply
apply_leaves a s v e = ap (λ (o : Option ℕ). get_or o (s v)) e
