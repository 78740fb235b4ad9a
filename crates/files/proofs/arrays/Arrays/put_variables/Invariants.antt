-- The records from v on, placed behind those that stand, make all the records.
use Rattle.std.proofs.Common.{◌≡◌, ◌+◌, ◌*◌, ◌-◌}
use Rattle.files.specs.Below.{tabulate, tabulate_from}
use Rattle.files.specs.Bytes.{placed}
use Rattle.files.specs.Dense.{row_variable}
use Rattle.files.specs.TaskFile.{variable_bytes}
use Rattle.files.proofs.arrays.Arrays.put_variables.Given as goal

abbrev pub invariant-loop-v : goal.invariant-loop-v
invariant-loop-v l =
    placed l.buffer (8 + 8 * l.v) (variable_bytes (tabulate_from l.v (l.self.variables - l.v) (row_variable l.self.sizes l.self.starts)))
    ≡ placed l.initial.buffer 8 (variable_bytes (tabulate l.self.variables (row_variable l.self.sizes l.self.starts)))
