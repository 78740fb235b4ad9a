-- The loop's invariant: the sums of the variables before `v`.
use Rattle.lookup.proofs.MoveLoops.{Summing}
use Rattle.lookup.proofs.moves.Move.of.Given as goal

abbrev pub invariant-loop-v : goal.invariant-loop-v
invariant-loop-v l = Summing l.task.variables l.row l.weights l.task.conditions l.task.effects l.v l.set l.asked
