-- Names for the parts of what functions ask and ensure.
use Rattle.std.specs.Prelude.{ℕ, ◌+◌, ◌≤◌, ◌<◌, ◌≡◌, List, length, get_or}
use Rattle.files.specs.Clauses.{WithinLimits}
use Rattle.files.specs.Task.{Action}
use Rattle.plans.specs.Plan.{Total, step_of}
use Rattle.plans.specs.State.{State}
use Rattle.plans.specs.Tally.{row_of, state_of, total_in}
use Rattle.plans.specs.declared.tally.Row.{Row}
use Rattle.plans.specs.declared.tally.Tally.{Tally}

-- the first `count` values, and 0 for the other variables
pub record ValuesCopied (r values : List ℕ) (count : ℕ) : Type 0 where
  pub copied : (v : ℕ) → v < count → get_or r v 0 ≡ get_or values v 0
  pub zero : (v : ℕ) → count ≤ v → get_or r v 0 ≡ 0

-- the state that a tally has reached, and its minutes and steps
pub record TallyIs (r : Tally) (state : State) (total : Total) : Type 0 where
  pub reached : state_of r ≡ state
  pub counted : total_in r ≡ total

-- minutes and steps have room for one step more
pub record StepFits (tally : Tally) (action : Row) : Type 0 where
  pub minutes_fit : tally.minutes.0 + action.cost.0 < 18446744073709551616
  pub steps_fit : tally.steps.0 < 65535

-- the row of an action, whose cost has 4 bytes
pub record RowIs (r : Row) (action : Action) : Type 0 where
  pub is : row_of r ≡ action
  pub cost_below : r.cost.0 < 4294967296

-- a list of steps that a plan file can hold, for a task within its limits
pub record StepsWithin (variables actions : ℕ) (plan : List ℕ) : Type 0 where
  pub limits : WithinLimits variables actions
  pub few : length plan ≤ 4096
  pub known : (i : ℕ) → i < length plan → step_of plan i < actions
