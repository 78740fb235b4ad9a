-- Conditions are refused where their count stands.
use native.Mathlib.Omega.{arith}
use Rattle.translator.proofs.Calls.{handed, judged_by, judged_shut}
use Rattle.translator.proofs.EffectReading.{plain_read}
use Rattle.translator.proofs.operators.plain.Goals as goal

pub returns-in_err-count-clause-read : goal.returns-in_err-count-clause-read
returns-in_err-count-clause-read c = rw (handed _ _ c.from_residual.ensures.1) (plain_read _ _ _ _ c.in_err-count.ensures.read (judged_shut c.in_err-count.field-0.0 _ _ _))

pub returns-clause-read : goal.returns-clause-read
returns-clause-read c = plain_read _ _ _ _ c.in_ok-count.ensures.read (judged_by c.judged.result c.number.new.self.at _ _ _ (omega arith) c.judged.ensures)
