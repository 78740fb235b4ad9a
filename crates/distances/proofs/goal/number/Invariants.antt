-- The loop's invariant: what the values of the variables before `v` add.
use Rattle.distances.proofs.Goals.{Numbering}
use Rattle.distances.proofs.goal.number.Given as goal

abbrev pub invariant-loop-v : goal.invariant-loop-v
invariant-loop-v l = Numbering l.variables l.goal l.weights l.v l.number
