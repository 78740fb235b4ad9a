-- The loop's invariant: the facts of the cells before `v` are reached.
use Rattle.reduction.specs.ReachDense.{row_facts, Reaches}
use Rattle.reduction.proofs.reach.Reach.reach_row.Given as goal

abbrev pub invariant-loop-v : goal.invariant-loop-v
invariant-loop-v l =
    Reaches (row_facts l.row l.base l.v) l.rows l.task.actions l.initial.self.facts l.initial.self.order l.initial.self.found l.self.facts l.self.counts l.self.order l.self.found
