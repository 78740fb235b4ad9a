-- The check of the variables from i on is the check of all.
use Rattle.std.proofs.Common.{◌≡◌, ◌+◌, ◌*◌, ◌-◌}
use Rattle.files.specs.TaskFile.{variables_at}
use Rattle.files.proofs.task.check_variables.Given as goal

abbrev pub invariant-loop-i : goal.invariant-loop-i
invariant-loop-i l = variables_at l.s (l.at + 8 * l.i) (l.count - l.i) ≡ variables_at l.s l.at l.count
