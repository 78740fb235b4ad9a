-- The loop's invariant: of the variables before `v`, those that the effects set otherwise are marked.
use Rattle.std.proofs.Common.{◌*◌}
use Rattle.marking.specs.Dense.{SetWhere, threatens}
use Rattle.marking.proofs.links.threaten.Given as goal

abbrev pub invariant-loop-v : goal.invariant-loop-v
invariant-loop-v l = SetWhere (threatens l.task.effects (64 * l.action) l.task.starts l.v) l.initial.threats l.threats
