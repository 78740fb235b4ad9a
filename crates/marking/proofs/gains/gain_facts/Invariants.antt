-- The loop's invariant: the facts that actions before `a` name are marked, where they are counted and were not before.
use Rattle.marking.specs.Dense.{SetWhere, names_anew}
use Rattle.marking.proofs.gains.gain_facts.Given as goal

abbrev pub invariant-loop-a : goal.invariant-loop-a
invariant-loop-a l =
    SetWhere (names_anew l.whole l.task.conditions l.task.sizes l.task.variables l.counted l.counted_before l.a) l.initial.facts l.facts
