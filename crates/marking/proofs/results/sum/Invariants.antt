-- The loop's invariant: the total is that of the bytes before `i`.
use Rattle.std.proofs.Common.{◌≡◌, ◌≤◌, ◌*◌}
use Rattle.files.specs.Below.{sum_of}
use Rattle.marking.proofs.results.sum.Given as goal

abbrev pub invariant-loop-i : goal.invariant-loop-i
invariant-loop-i l = (l.total ≡ sum_of l.bytes l.i) × (l.total ≤ 255 * l.i)
