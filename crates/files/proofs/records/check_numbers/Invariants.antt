-- The check of the numbers from i on is the check of all.
use Rattle.std.proofs.Common.{◌≡◌, ◌+◌, ◌*◌, ◌-◌}
use Rattle.files.specs.Records.{numbers_at}
use Rattle.files.proofs.records.check_numbers.Given as goal

abbrev pub invariant-loop-i : goal.invariant-loop-i
invariant-loop-i l = numbers_at l.limit l.s (l.at + 2 * l.i) (l.count - l.i) ≡ numbers_at l.limit l.s l.at l.count
