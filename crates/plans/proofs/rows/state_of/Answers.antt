-- The values before `count` are copied, and 0 stands behind them.
use Rattle.std.proofs.Common.{arith}
use Rattle.plans.proofs.Copied.{values_copied}
use Rattle.plans.proofs.rows.state_of.Goals as goal

pub returns : goal.returns
returns c = values_copied _ _ _ c.copy_from_slice.ensures.after (omega arith)
