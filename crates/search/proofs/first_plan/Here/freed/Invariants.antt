-- The loop's invariant: the sum, and what the variables in the rest of the word add, make what those in the word add.
use Rattle.search.proofs.HereLoops.{Freeing}
use Rattle.search.proofs.first_plan.Here.freed.Given as goal

abbrev pub invariant-loop-rest : goal.invariant-loop-rest
invariant-loop-rest l = Freeing l.self l.word l.sum l.rest

abbrev pub decreases-loop-rest : goal.decreases-loop-rest
decreases-loop-rest l = l.rest
