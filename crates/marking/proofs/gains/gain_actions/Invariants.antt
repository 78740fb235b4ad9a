-- The loop's invariant: the actions that set a fact before `i` that became unlinked are kept.
use Rattle.marking.specs.Dense.{SetWhere, achieves}
use Rattle.marking.proofs.gains.gain_actions.Given as goal

abbrev pub invariant-loop-i : goal.invariant-loop-i
invariant-loop-i l = SetWhere (achieves l.task.effects l.task.actions l.unlinked_before l.unlinked l.i) l.initial.kept l.kept
