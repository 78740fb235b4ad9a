-- Storing the variables from v on gives all of them stored.
use Rattle.std.proofs.Common.{◌≡◌, ◌+◌, ◌*◌, ◌-◌}
use Rattle.files.specs.Rows.{variables_stored}
use Rattle.files.specs.TaskFile.{variables_from}
use Rattle.files.proofs.arrays.Arrays.read_variables.Given as goal

abbrev pub invariant-loop-v : goal.invariant-loop-v
invariant-loop-v l = variables_stored l.v (variables_from l.s (8 * l.v + 8) (l.v-end - l.v)) l.self ≡ variables_stored 0 (variables_from l.s 8 l.v-end) l.initial.self
