-- The action's conditions are those of its row.
use Rattle.plans.specs.State.{applicable}
use Rattle.plans.specs.Tally.{row_of, state_of}
use Rattle.plans.proofs.tally.Tally.meets.Goals as goal

pub returns : goal.returns
unfolding applicable row_of state_of
returns c = c.all_hold.ensures
