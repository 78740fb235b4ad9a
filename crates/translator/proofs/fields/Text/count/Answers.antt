-- A number above the limit is refused at its place.
use native.Mathlib.Omega.{arith}
use Rattle.translator.proofs.Calls.{handed, judged_open, judged_stop, judged_shut, value_open, value_shut}
use Rattle.translator.proofs.CountReading.{count_read}
use Rattle.translator.proofs.fields.Text.count.Goals as goal

pub returns-in_err-value-clause-read : goal.returns-in_err-value-clause-read
returns-in_err-value-clause-read c =
    rw (handed _ _ c.from_residual.ensures.1)
    (count_read _ _ _ c.in_err-value.ensures.read _ _ _ c.requires (judged_shut c.in_err-value.field-0.0 _ _ _) (value_shut c.in_err-value.field-0.0 _))

pub returns-in_err-judged-clause-read : goal.returns-in_err-judged-clause-read
returns-in_err-judged-clause-read c =
    rw (handed _ _ c.from_residual-in_err-judged.ensures.1)
    (count_read _ _ _ c.in_ok-value.ensures.read _ _ _ c.requires (judged_stop c.in_err-judged.field-0.0 c.number.new.self.at _ _ _ c.in_err-judged.ensures) (value_shut c.in_err-judged.field-0.0 _))

pub returns-clause-read : goal.returns-clause-read
returns-clause-read c = count_read _ _ _ c.in_ok-value.ensures.read _ _ _ c.requires (judged_open c.number.new.self.at _ _ _ (omega arith) c.in_ok-judged.ensures) (value_open _ _)
