-- Filling in the pairs from i on gives the row with all of them.
use Rattle.std.proofs.Common.{◌≡◌, ◌+◌, ◌*◌, ◌-◌}
use Rattle.files.specs.TaskFile.{pairs_from}
use Rattle.files.specs.Rows.{filled}
use Rattle.files.proofs.decode.fill_row.Given as goal

abbrev pub invariant-loop-i : goal.invariant-loop-i
invariant-loop-i l = filled l.row l.base (pairs_from l.s (l.at + 4 * l.i) (l.count - l.i)) ≡ filled l.initial.row l.base (pairs_from l.s l.at l.count)
