-- The check of the pairs from i on, the first variable at least `at_least`, is the check of all.
use Rattle.std.proofs.Common.{◌≡◌, ◌+◌, ◌*◌, ◌-◌}
use Rattle.files.specs.TaskFile.{pairs_at}
use Rattle.files.proofs.task.check_pairs.Given as goal

abbrev pub invariant-loop-i : goal.invariant-loop-i
invariant-loop-i l = pairs_at l.s l.at_least (l.at + 4 * l.i) (l.count - l.i) ≡ pairs_at l.s 0 l.at l.count
