-- At least one value, and at most 32.
use native.Mathlib.Omega.{arith}
use Rattle.translator.proofs.Calls.{handed, judged_open, judged_stop, judged_shut, value_open, value_shut}
use Rattle.translator.proofs.CountReading.{size_read}
use Rattle.translator.proofs.variables.size.Goals as goal

pub returns-in_err-size-clause-read : goal.returns-in_err-size-clause-read
returns-in_err-size-clause-read c =
    let e = c.in_err-size.field-0.0 in
    rw (handed _ _ c.from_residual.ensures.1)
    (size_read _ _ _ c.in_err-size.ensures.read _ _ _ (judged_shut e _ _ _) (judged_shut e _ _ _) (value_shut e _))

pub returns-in_err-judged-clause-read : goal.returns-in_err-judged-clause-read
returns-in_err-judged-clause-read c =
    let e = c.in_err-judged.field-0.0 in
    rw (handed _ _ c.from_residual-in_err-judged.ensures.1)
    (size_read _ _ _ c.in_ok-size.ensures.read _ _ _ (judged_stop e c.number.new.self.at _ _ _ c.in_err-judged.ensures) (judged_shut e _ _ _) (value_shut e _))

pub returns-in_err-judged-2-clause-read : goal.returns-in_err-judged-2-clause-read
returns-in_err-judged-2-clause-read c =
    let e = c.in_err-judged-2.field-0.0 in
    let at = c.number.new.self.at in
    rw (handed _ _ c.from_residual-in_err-judged-2.ensures.1)
    (size_read _ _ _ c.in_ok-size.ensures.read _ _ _ (judged_open at _ _ _ (omega arith) c.in_ok-judged.ensures) (judged_stop e at _ _ _ c.in_err-judged-2.ensures) (value_shut e _))

pub returns-clause-read : goal.returns-clause-read
returns-clause-read c =
    let at = c.number.new.self.at in
    size_read _ _ _ c.in_ok-size.ensures.read _ _ _ (judged_open at _ _ _ (omega arith) c.in_ok-judged.ensures) (judged_open at _ _ _ (omega arith) c.in_ok-judged-2.ensures) (value_open _ _)
