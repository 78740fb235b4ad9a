-- The loop's invariant: of the actions before `a`, those that set the variable to the value are kept.
use Rattle.marking.specs.Dense.{SetWhere, sets}
use Rattle.marking.proofs.gains.keep_setters.Given as goal

abbrev pub invariant-loop-a : goal.invariant-loop-a
invariant-loop-a l = SetWhere (sets l.task.effects l.v l.value l.a) l.initial.kept l.kept
