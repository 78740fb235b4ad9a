-- The loop's invariant: the word has the variables from `v` on of which the goal asks nothing.
use lib.Dec.{eqb}
use lib.ListN.{get_or}
use Rattle.bits.proofs.WordLoops.{Marking}
use Rattle.distances.proofs.goal.free.Given as goal

abbrev pub invariant-loop-v : goal.invariant-loop-v
invariant-loop-v l = Marking l.variables (λ u. eqb (get_or l.goal u 0) 255) l.v l.word
