-- The loop's invariant: no number from `from` on is in the set before bit `bit` of the word at `place`.
use Rattle.bits.proofs.SetLoops.{Scanned}
use Rattle.bits.proofs.sets.next_in.Given as goal

abbrev pub invariant-loop-place : goal.invariant-loop-place
invariant-loop-place l = Scanned l.words l.at l.from l.place l.bit
