-- The limit is the written cost's.
use native.Mathlib.Omega.{arith}
use mathlib.Core.Path.{refl}
use Rattle.translator.proofs.Calls.{handed, judged_open, judged_stop, judged_shut, value_open, value_shut}
use Rattle.translator.proofs.OperatorReading.{cost_read_lem}
use Rattle.translator.proofs.operators.cost.Goals as goal

pub returns-in_err-written-clause-read : goal.returns-in_err-written-clause-read
returns-in_err-written-clause-read c =
    let e = c.in_err-written.field-0.0 in
    rw (handed _ _ c.from_residual.ensures.1) (cost_read_lem _ _ _ _ _ _ _ c.in_err-written.ensures.read refl (judged_shut e _ _ _) (value_shut e _))

pub returns-in_err-judged-clause-read : goal.returns-in_err-judged-clause-read
returns-in_err-judged-clause-read c =
    let e = c.in_err-judged.field-0.0 in
    rw (handed _ _ c.from_residual-in_err-judged.ensures.1)
    (cost_read_lem _ _ _ _ _ _ _ c.in_ok-written.ensures.read c.cost_by-spent.ensures (judged_stop e c.number.new.self.at _ _ _ c.in_err-judged.ensures) (value_shut e _))

pub returns-clause-read : goal.returns-clause-read
returns-clause-read c = cost_read_lem _ _ _ _ _ _ _ c.in_ok-written.ensures.read c.cost_by-spent.ensures (judged_open c.number.new.self.at _ _ _ (omega arith) c.in_ok-judged.ensures) (value_open _ _)
