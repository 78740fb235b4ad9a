-- The numbers from i on, placed behind those that stand, make all the numbers.
use Rattle.std.proofs.Common.{◌≡◌, ◌+◌, ◌*◌, map, drop}
use Rattle.files.specs.Bytes.{placed}
use Rattle.files.specs.Records.{number_bytes}
use Rattle.files.proofs.write_origin.put_numbers.Given as goal

abbrev pub invariant-loop-i : goal.invariant-loop-i
invariant-loop-i g l = placed l.buffer (l.at + 2 * l.i) (number_bytes (map g.value (drop l.i l.numbers))) ≡ placed l.initial.buffer l.at (number_bytes (map g.value l.numbers))
