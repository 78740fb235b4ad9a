use mathlib.Core.Path.{refl, ◌∙◌}
use native.Mathlib.Omega.{arith}
use Rattle.translator.proofs.Calls.{handed, texts, closed}
use Rattle.translator.proofs.OperatorsReading.{operators_start, operators_next, operators_stop, operators_end, operators_up, rows_same, rows_then}
use Rattle.translator.proofs.operators.operators.Goals as goal

pub loop-a-init : goal.loop-a-init
loop-a-init c = (refl, rows_same _, operators_start _ _ _ _ _ _ _ _)

pub operator-requires-clause-variables : goal.operator-requires-clause-variables
operator-requires-clause-variables c = omega (arith, c.loop-a.invariant.1.variables, c.requires.variables)

pub returns-in_err-operator-clause-kept : goal.returns-in_err-operator-clause-kept
returns-in_err-operator-clause-kept c = c.operator.ensures.kept ∙ c.loop-a.invariant.0

pub returns-in_err-operator-clause-rows : goal.returns-in_err-operator-clause-rows
returns-in_err-operator-clause-rows c = rows_then _ _ _ c.loop-a.invariant.1 c.operator.ensures.rows

pub returns-in_err-operator-clause-read : goal.returns-in_err-operator-clause-read
returns-in_err-operator-clause-read c =
    let e = c.in_err-operator.field-0.0 in
    let rows = c.loop-a.invariant.1 in
    rw (handed _ _ c.from_residual.ensures.1)
    (operators_up _ _ _ _ _ _ _ _ _ _ _ _
    (operators_stop _ _ _ _ _ _ _ _ _ _ _ _ _
    (operators_next _ _ _ _ _ _ _ _ _ _ _ _ _ c.loop-a.invariant.2 _ _ _ _ c.loop-a-test.true (rw (texts c.loop-a.invariant.0, rows.variables, rows.sizes) at c.in_err-operator.ensures.read))
    (closed e))
    (closed e))

pub loop-a-preserved : goal.loop-a-preserved
loop-a-preserved c =
    let rows = c.loop-a.invariant.1 in (
      c.operator.ensures.kept ∙ c.loop-a.invariant.0,
      rows_then _ _ _ rows c.operator.ensures.rows,
      operators_next _ _ _ _ _ _ _ _ _ _ _ _ _ c.loop-a.invariant.2 _ _ _ _ c.loop-a-test.true (rw (texts c.loop-a.invariant.0, rows.variables, rows.sizes) at c.in_ok-operator.ensures.read),
    )

pub returns-clause-kept : goal.returns-clause-kept
returns-clause-kept c = c.loop-a.invariant.0

pub returns-clause-rows : goal.returns-clause-rows
returns-clause-rows c = c.loop-a.invariant.1

pub returns-clause-read : goal.returns-clause-read
returns-clause-read c = operators_end _ _ _ _ _ _ _ _ _ _ _ _ _ c.loop-a.invariant.2 c.loop-a-test.false
