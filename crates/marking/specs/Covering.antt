-- When one action covers another.
use Rattle.std.specs.Prelude.{ℕ, Bool, true, false, not, ◌&&◌, ◌||◌, List, eqb, leb}
use Rattle.std.proofs.Math.Option.{Option, none, some}
use Rattle.files.specs.Below.{any_below, all_below, all_of}
use Rattle.files.specs.Task.{Pair, Action, Task, variable_count, action_count, action_of, value_in}
use Rattle.plans.specs.State.{has_fact}

-- both leave the variable, or both set the same value
abbrev pub same_effect : Option ℕ → Option ℕ → Bool
same_effect none none = true
same_effect none (some y) = false
same_effect (some x) none = false
same_effect (some x) (some y) = eqb x y

-- every condition of the first list stands in the second
unfoldable pub within : List Pair → List Pair → Bool
within conditions others = all_of (λ c. has_fact others c.variable c.value) conditions

-- what does not depend on the round: b costs the same as a or less, and its conditions are a proper subset
unfoldable pub could_cover : Action → Action → Bool
could_cover b a =
    leb b.cost a.cost
    && (within b.conditions a.conditions && not (within a.conditions b.conditions))

-- b covers a: it could, and it has the same effect on each tracked variable
unfoldable pub covers : Task → (ℕ → Bool) → Action → Action → Bool
covers t tracked b a =
    could_cover b a
    && all_below (variable_count t) (λ v. not (tracked v) || same_effect (value_in b.effects v) (value_in a.effects v))

-- covered (01): an action of A covers it
unfoldable pub covered : Task → (ℕ → Bool) → (ℕ → Bool) → ℕ → Bool
covered t tracked A a = any_below (action_count t) (λ b. A b && covers t tracked (action_of t b) (action_of t a))
