-- The loop's invariant: what turns are left is what the definition has left.
use Prim.Native.Nat.{◌-◌}
use Rattle.files.specs.Dense.{held}
use Rattle.reduction.proofs.TurnsGoOn.{limit, GoesOn}
use Rattle.reduction.proofs.turns.run.Given as goal

abbrev pub invariant-loop-turns : goal.invariant-loop-turns
invariant-loop-turns l = GoesOn (held l.initial.task) l.task l.origin l.marks l.turns

abbrev pub decreases-loop-turns : goal.decreases-loop-turns
decreases-loop-turns l = limit (held l.initial.task) - l.turns
