-- The loop's invariant: whether each cell before `v` is met.
use Rattle.std.proofs.Common.{◌≡◌}
use Rattle.files.specs.Below.{all_below}
use Rattle.plans.specs.Tally.{list_state}
use Rattle.plans.proofs.RowStates.{meets_at}
use Rattle.plans.proofs.rows.all_hold.Given as goal

abbrev pub invariant-loop-v : goal.invariant-loop-v
invariant-loop-v l = l.held ≡ all_below l.v (meets_at l.row 0 (list_state l.state))
