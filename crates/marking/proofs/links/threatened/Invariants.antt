-- The loop's invariant: the variables that actions before `a` threaten are marked.
use Rattle.marking.specs.Dense.{SetWhere, threatens_anew}
use Rattle.marking.proofs.links.threatened.Given as goal

abbrev pub invariant-loop-a : goal.invariant-loop-a
invariant-loop-a l =
    SetWhere (threatens_anew l.task.effects l.task.starts l.task.variables l.kept l.kept_before l.a) l.initial.threats l.threats
