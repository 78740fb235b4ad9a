-- Reached facts and actions: those that can come about from the start.
use Rattle.std.specs.Prelude.{ℕ, zero, suc, Bool, false, ◌&&◌, ◌||◌, List, eqb}
use Rattle.files.specs.Below.{any_below, any_of, all_of}
use Rattle.files.specs.Task.{Pair, Task, action_count, action_of, size_of, start_of}
use Rattle.plans.specs.State.{admits}
use Rattle.marking.specs.Marks.{action_marks}
use Rattle.marking.specs.Rounds.{marked}

-- effects set the variable to the value
unfoldable pub sets : List Pair → ℕ → ℕ → Bool
sets effects v value = any_of (λ e. eqb e.variable v && eqb e.value value) effects

-- a fact is reached (02) if it is a start fact or the effect of a reached action, R being the reached actions
unfoldable pub fact_reached : Task → (ℕ → Bool) → ℕ → ℕ → Bool
fact_reached t R v value = eqb value (start_of t v) || any_below (action_count t) (λ a. R a && sets (action_of t a).effects v value)

-- a condition is reached where one of the values that it admits is
unfoldable pub condition_reached : Task → (ℕ → Bool) → Pair → Bool
condition_reached t R condition =
    any_below (size_of t condition.variable) (λ value. admits condition value && fact_reached t R condition.variable value)

-- an action is reached (02) if all its conditions are
unfoldable pub action_reached : Task → (ℕ → Bool) → ℕ → Bool
action_reached t R a = all_of (condition_reached t R) (action_of t a).conditions

-- the actions that so many rounds reach, from none
unfoldable pub reached_in : ℕ → Task → List Bool
reached_in zero t = action_marks t (λ a. false)
reached_in (suc rounds) t = let before = reached_in rounds t in action_marks t (action_reached t (marked before))

-- only what follows from this is reached: as many rounds as there are actions
unfoldable pub reached_actions : Task → List Bool
reached_actions t = reached_in (action_count t) t

unfoldable pub reached : Task → ℕ → Bool
reached t a = marked (reached_actions t) a
