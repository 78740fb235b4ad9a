-- The operators that are left make of the arrays what all make of them.
use mathlib.Core.Path.{◌≡◌}
use lib.ListN.{take}
use Rattle.files.specs.Below.{bit}
use Rattle.translator.specs.Format.{cursor_at}
use Rattle.translator.specs.OperatorContracts.{RowsOnly}
use Rattle.translator.proofs.OperatorsReading.{OperatorsLeft}
use Rattle.translator.proofs.operators.operators.Given as goal

abbrev pub invariant-loop-a : goal.invariant-loop-a
invariant-loop-a l =
    let task = l.fn.task in
    (l.text.bytes ≡ l.fn.text.bytes)
    × RowsOnly task l.task
    × OperatorsLeft l.fn.text.bytes.now (cursor_at l.fn.text.at) task.actions (take task.variables task.sizes) (bit l.metric) task.costs task.conditions task.effects (cursor_at l.text.at) l.a l.task.costs l.task.conditions l.task.effects
