-- Falls by the variables that are left. The loop's invariant: the states with a value of variable `v` below `value` have been
-- offered the entry.
use Rattle.std.proofs.Common.{◌+◌, ◌-◌, ◌*◌}
use Rattle.distances.specs.Offers.{differs_from}
use Rattle.distances.proofs.OfferLoops.{Turns}
use Rattle.distances.proofs.tables.Tables.+offer.Given as goal

abbrev pub decreases-offer : goal.decreases-offer
decreases-offer l = l.self.now.task.now.variables - l.from

abbrev pub invariant-loop-value : goal.invariant-loop-value
invariant-loop-value l =
    Turns (λ z s. differs_from l.self.task.now.sizes l.self.task.now.variables l.free l.next (l.number + l.weight * z) s) l.size l.entry l.initial.entries l.initial.selection l.entries l.selection l.value
