-- The loop's invariant: the effects of the listed actions before `next` are reached, and nothing but what follows.
use Prim.Native.Nat.{◌-◌}
use Rattle.reduction.proofs.ReachFollowed.{FollowedTo}
use Rattle.reduction.proofs.reach.Reach.follow.Given as goal

abbrev pub invariant-loop-next : goal.invariant-loop-next
invariant-loop-next l =
    FollowedTo l.rows l.task.effects l.task.variables l.task.actions l.initial.self.facts l.self.facts l.self.counts l.self.order l.self.found l.next

abbrev pub decreases-loop-next : goal.decreases-loop-next
decreases-loop-next l = l.task.actions - l.next
