-- The tally of a plan: the state reached, minutes and steps; and an action as the tally takes it.
use Rattle.std.specs.Prelude.{ℕ, Bool, true, cond, List, eqb, get_or}
use Rattle.files.specs.Outcome.{done, is_done, guard}
use Rattle.files.specs.Task.{Pair, Action, action}
use Rattle.files.specs.Dense.{row_pairs}
use Rattle.plans.specs.State.{State, all_hold}
use Rattle.plans.specs.Plan.{Total, no_steps}
use Rattle.plans.specs.Check.{Checked, with_total}
use Rattle.plans.specs.declared.tally.Row.{Row}
use Rattle.plans.specs.declared.tally.Tally.{Tally}

-- a list of values as a state
unfoldable pub list_state : List ℕ → State
list_state values v = get_or values v 0

-- whether a value meets a condition's cell: 255 is no condition
unfoldable pub meets_cell : ℕ → ℕ → Bool
meets_cell condition value = cond (eqb condition 255) true (eqb condition value)

-- the value that an effect's cell leaves: 255 is no effect
unfoldable pub after_cell : ℕ → ℕ → ℕ
after_cell effect value = cond (eqb effect 255) value effect

-- the action that an action's row stands for
unfoldable pub row_of : Row → Action
row_of a = action a.cost.0 (row_pairs a.conditions 0 0 64) (row_pairs a.effects 0 0 64)

unfoldable pub state_of : Tally → State
state_of tally = list_state tally.state

unfoldable pub total_in : Tally → Total
total_in tally = record { minutes = tally.minutes.0; steps = tally.steps.0 }

-- the answer after the last step, from a tally
unfoldable pub end_answer : Tally → List Pair → Checked
end_answer tally goal =
    let o = guard (all_hold goal (state_of tally)) 23 tally.steps.0 done in
    with_total o (cond (is_done o) (total_in tally) no_steps)
