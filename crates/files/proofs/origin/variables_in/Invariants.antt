-- The origins counted and those from where the reader is are all that stand in a row.
use Rattle.std.proofs.Common.{◌≡◌, ◌≤◌, ◌+◌, ◌*◌, ◌-◌}
use Rattle.files.specs.OriginFile.{variable_origins_from}
use Rattle.files.proofs.origin.variables_in.Given as goal

abbrev pub invariant-loop-i : goal.invariant-loop-i
invariant-loop-i l =
    (l.reader.file.now ≡ l.s)
    × (l.i + variable_origins_from l.s l.reader.at (65 - l.i) ≡ variable_origins_from l.s 0 65)
    × (l.reader.at ≤ 65540 * l.i)
