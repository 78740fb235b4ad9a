-- The loop's invariant: the values before `v` are there, and `rest` holds the others.
use Rattle.distances.proofs.StateLoops.{Decoding}
use Rattle.distances.proofs.states.values_of.Given as goal

abbrev pub invariant-loop-v : goal.invariant-loop-v
invariant-loop-v l =
    Decoding l.sizes l.variables l.state l.values l.rest l.v
