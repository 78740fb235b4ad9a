-- A value that is not below the size is refused at its place.
use native.Mathlib.Omega.{arith}
use Rattle.translator.proofs.Calls.{handed, judged_open, judged_stop, judged_shut, value_open, value_shut}
use Rattle.translator.proofs.CountReading.{value_read}
use Rattle.translator.proofs.lists.value.Goals as goal

pub returns-in_err-value-clause-read : goal.returns-in_err-value-clause-read
returns-in_err-value-clause-read c =
    let e = c.in_err-value.field-0.0 in
    rw (handed _ _ c.from_residual.ensures.1) (value_read _ _ _ c.in_err-value.ensures.read _ _ _ c.requires (judged_shut e _ _ _) (value_shut e _))

pub returns-in_err-judged-clause-read : goal.returns-in_err-judged-clause-read
returns-in_err-judged-clause-read c =
    let e = c.in_err-judged.field-0.0 in
    rw (handed _ _ c.from_residual-in_err-judged.ensures.1)
    (value_read _ _ _ c.in_ok-value.ensures.read _ _ _ c.requires (judged_stop e c.number.new.self.at _ _ _ c.in_err-judged.ensures) (value_shut e _))

pub returns-clause-read : goal.returns-clause-read
returns-clause-read c = value_read _ _ _ c.in_ok-value.ensures.read _ _ _ c.requires (judged_open c.number.new.self.at _ _ _ (omega arith) c.in_ok-judged.ensures) (value_open _ _)
