-- -1 where a minus is next, else a number.
use Rattle.translator.proofs.Calls.{handed, value_open, value_shut}
use Rattle.translator.proofs.NumberReading.{number_small, signed_number, signed_minus}
use Rattle.translator.proofs.fields.Text.signed.Goals as goal

pub returns-in_err-number-clause-read : goal.returns-in_err-number-clause-read
returns-in_err-number-clause-read c = rw (handed _ _ c.from_residual.ensures.1) (signed_number _ _ _ _ c.if-not-next_is.ensures c.in_err-number.ensures.read)

pub returns-then-not-next_is-clause-told : goal.returns-then-not-next_is-clause-told
returns-then-not-next_is-clause-told c = number_small _ _ _ _ c.in_ok-number.ensures.read

pub returns-then-not-next_is-clause-read : goal.returns-then-not-next_is-clause-read
returns-then-not-next_is-clause-read c = signed_number _ _ _ _ c.if-not-next_is.ensures c.in_ok-number.ensures.read

pub returns-in_err-word-clause-read : goal.returns-in_err-word-clause-read
returns-in_err-word-clause-read c =
    rw (handed _ _ c.from_residual-in_err-word.ensures.1)
    (signed_minus _ _ _ _ _ c.if-not-next_is.ensures (rw c.byte.ensures at c.in_err-word.ensures.read) (value_shut c.in_err-word.field-0.0 _))

pub returns-clause-read : goal.returns-clause-read
returns-clause-read c = signed_minus _ _ _ _ _ c.if-not-next_is.ensures (rw c.byte.ensures at c.in_ok-word.ensures.read) (value_open _ _)
