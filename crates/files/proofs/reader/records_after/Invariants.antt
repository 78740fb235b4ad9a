-- The records that are left, from where the reader is, end where all of them do.
use Rattle.std.proofs.Common.{◌≡◌, ◌≤◌, ◌+◌, ◌*◌, ◌-◌}
use Rattle.files.specs.Records.{records_end}
use Rattle.files.proofs.reader.records_after.Given as goal

abbrev pub invariant-loop : goal.invariant-loop
invariant-loop l =
    (l.reader.file.now ≡ l.file)
    × (records_end l.file l.reader.at (l.count - l.counter) ≡ records_end l.file l.at l.count)
    × (l.reader.at + 65540 * (l.count - l.counter) ≤ l.at + 65540 * l.count)
