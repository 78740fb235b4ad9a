-- From the right: the digits of what is left, stored at the front, make of the buffer what was to be made.
use Prim.Native.Nat.{◌+◌, ◌^◌, ◌≤◌, ◌<◌}
use mathlib.Core.Path.{◌≡◌}
use lib.ListN.{length}
use lib.Seq.{sets}
use Rattle.digits.specs.Decimal.{decimal}
use Rattle.digits.proofs.groups.put_digits.Given as goal

abbrev pub invariant-loop-rest : goal.invariant-loop-rest
invariant-loop-rest g l =
    (sets l.buffer l.at (decimal l.rest) ≡ sets l.initial.buffer l.at (decimal l.n))
    × (l.at + length (decimal l.rest) ≡ l.end)
    × (l.end ≤ length l.buffer)
    × (length l.buffer ≡ length l.initial.buffer)
    × (l.rest < 2 ^ 64)

abbrev pub decreases-loop-rest : goal.decreases-loop-rest
decreases-loop-rest g l = l.rest
