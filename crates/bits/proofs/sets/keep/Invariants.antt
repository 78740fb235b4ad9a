-- The loop's invariant: the words before `i` have their bits that are in the row too.
use Rattle.bits.proofs.SetLoops.{Keeping}
use Rattle.bits.proofs.sets.keep.Given as goal

abbrev pub invariant-loop-i : goal.invariant-loop-i
invariant-loop-i l = Keeping l.rows l.at l.initial.words l.words l.i
