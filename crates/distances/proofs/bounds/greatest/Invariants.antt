-- The loop's invariant: no entry of the states before is above it.
use Rattle.distances.proofs.BoundLaws.{AboveBelow}
use Rattle.distances.proofs.bounds.greatest.Given as goal

abbrev pub invariant-loop-entry : goal.invariant-loop-entry
invariant-loop-entry l = AboveBelow l.entries l.most l.entry-index
