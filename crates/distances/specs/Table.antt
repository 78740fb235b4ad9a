-- The work table: for each state the least cost to the goal, then the fewest steps at that cost.
use Rattle.std.specs.Prelude.{ℕ, zero, suc, ◌-◌, ◌^◌, Bool, true, false, not, cond, ◌&&◌, List, map, get_or}
use Rattle.std.proofs.Math.Option.{Option, none, some}
use Rattle.files.specs.Below.{tabulate}
use Rattle.files.specs.Task.{Action, Task, action_count, action_of}
use Rattle.plans.specs.State.{start_state, all_hold, applicable, apply}
use Rattle.plans.specs.Plan.{Total, no_steps, add_step, at_most}
use Rattle.distances.specs.States.{state_count, state_number, state_at}
use Rattle.distances.specs.declared.Entry.{Entry}

-- the number of the start state
unfoldable pub start_number : Task → ℕ
start_number t = state_number t.variables (start_state t)

-- cost and steps from a state to the goal, none where it cannot be reached
abbrev pub Distance : Type 0
Distance = Option Total

unfoldable pub less : Distance → Distance → Bool
less none y = false
less (some x) none = true
less (some x) (some y) = not (at_most y x)

-- the lesser of two, the first where they are alike
unfoldable pub least : Distance → Distance → Distance
least x y = cond (less y x) y x

unfoldable pub same : Distance → Distance → Bool
same x y = not (less x y) && not (less y x)

-- with one step more in front
unfoldable pub step_to : Action → Distance → Distance
step_to a none = none
step_to a (some x) = some (add_step a x)

-- with no step: nothing where the goal holds
unfoldable pub at_goal : Task → ℕ → Distance
at_goal t n = cond (all_hold t.goal (state_at t.variables n)) (some no_steps) none

-- the number of the state after an action
unfoldable pub next_state : Task → ℕ → ℕ → ℕ
next_state t a n = state_number t.variables (apply (action_of t a) (state_at t.variables n))

-- by way of action a first, then as a row of distances says
unfoldable pub through : Task → List Distance → ℕ → ℕ → Distance
through t row n a =
    cond
    (applicable (action_of t a) (state_at t.variables n))
    (step_to (action_of t a) (get_or row (next_state t a n) none))
    none

-- the least of no step at all and of a first step by one of the actions below a
unfoldable pub least_below : Task → List Distance → ℕ → ℕ → Distance
least_below t row n zero = at_goal t n
least_below t row n (suc a) = least (least_below t row n a) (through t row n a)

-- the distances by plans of at most k steps
unfoldable pub distances_in : Task → ℕ → List Distance
distances_in t zero = tabulate (state_count t.variables) (at_goal t)
distances_in t (suc k) =
    let row = distances_in t k in
    tabulate (state_count t.variables) (λ n. least_below t row n (action_count t))

-- a plan has at most states less 1 steps
unfoldable pub distances : Task → List Distance
distances t = distances_in t (state_count t.variables - 1)

-- an entry of so many minutes and steps, and those of an entry
abbrev pub entry : ℕ → ℕ → Entry
entry minutes steps = record { minutes = record { 0 = minutes }; steps = record { 0 = steps } }

abbrev pub minutes_of : Entry → ℕ
minutes_of e = e.minutes.0

abbrev pub steps_of : Entry → ℕ
steps_of e = e.steps.0

unfoldable pub entry_of : Distance → Entry
entry_of none = entry (2 ^ 64 - 1) 65535
entry_of (some x) = entry x.minutes x.steps

unfoldable pub table_of : Task → List Entry
table_of t = map entry_of (distances t)
