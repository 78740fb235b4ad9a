-- The records from i on, placed behind those that stand, make all the records, and so do their bytes.
use Rattle.std.proofs.Common.{◌≡◌, ◌+◌, ◌-◌}
use Rattle.files.specs.Below.{tabulate, tabulate_from}
use Rattle.files.specs.Bytes.{placed}
use Rattle.files.specs.Dense.{row_origin}
use Rattle.files.specs.Lengths.{origins_needed}
use Rattle.files.specs.OriginFile.{variable_origin_bytes}
use Rattle.files.proofs.arrays.OriginArrays.put_variables.Given as goal

abbrev pub invariant-loop-i : goal.invariant-loop-i
invariant-loop-i l =
    let d = l.self in
    (placed l.buffer l.place (variable_origin_bytes (tabulate_from l.i (d.variables - l.i) (row_origin d.numbers d.sizes d.values))) ≡ placed l.initial.buffer 0 (variable_origin_bytes (tabulate d.variables (row_origin d.numbers d.sizes d.values))))
    × (l.place + origins_needed d.sizes l.i (d.variables - l.i) ≡ origins_needed d.sizes 0 d.variables)
