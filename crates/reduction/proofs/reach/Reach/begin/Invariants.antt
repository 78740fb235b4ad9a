-- The loop's invariant: the actions before `a` have their sets, their counts and their places in the list.
use mathlib.Core.Path.{◌≡◌}
use Rattle.reduction.proofs.ReachBegun.{BegunTo}
use Rattle.reduction.proofs.reach.Reach.begin.Given as goal

abbrev pub invariant-loop-a : goal.invariant-loop-a
invariant-loop-a l =
    BegunTo l.task.conditions l.task.variables l.rows l.self.counts l.self.order l.self.found l.a × (l.self.facts ≡ l.initial.self.facts)
