-- Both rows are copied, and the cost stands beside them.
use Rattle.files.specs.Task.{action}
use Rattle.files.specs.Dense.{row_action}
use Rattle.plans.specs.Tally.{row_of}
use Rattle.plans.proofs.walk.action_at.Goals as goal

pub returns : goal.returns
unfolding row_of row_action
returns c = record { is = λ i. action (c.from.ensures.is i) (c.row_at.ensures i) (c.row_at-2.ensures i); cost_below = c.from.ensures.below }
