-- What is left to check from where the reader is gives the outcome of all.
use Rattle.std.proofs.Common.{◌≡◌, ◌≤◌, ◌+◌, ◌*◌, ◌-◌}
use Rattle.files.specs.OriginFile.{variable_origins_at}
use Rattle.files.proofs.origin.check_variables.Given as goal

abbrev pub invariant-loop : goal.invariant-loop
invariant-loop l =
    (l.reader.file.now ≡ l.s)
    × (variable_origins_at l.s l.at_least l.reader.at (l.count - l.counter) ≡ variable_origins_at l.s 0 0 l.count)
    × (l.reader.at + 65540 * (l.count - l.counter) ≤ 65540 * l.count)
