-- The loop's invariant: the facts that entries before `v` name are marked.
use Rattle.marking.specs.Dense.{SetWhere, row_names}
use Rattle.marking.proofs.gains.name_row.Given as goal

abbrev pub invariant-loop-v : goal.invariant-loop-v
invariant-loop-v l = SetWhere (row_names l.whole l.row l.base l.task.sizes l.v) l.initial.facts l.facts
