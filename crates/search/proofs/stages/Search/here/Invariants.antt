-- The loop's invariant: what the variables before `v` add.
use Rattle.search.proofs.HereLoops.{Knowing}
use Rattle.search.proofs.stages.Search.here.Given as goal

abbrev pub invariant-loop-v : goal.invariant-loop-v
invariant-loop-v l = Knowing l.self.task.variables l.self.task.sizes l.state l.added l.weight l.v
