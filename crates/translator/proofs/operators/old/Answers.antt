-- An old value is tested where there is one.
use Rattle.translator.proofs.Calls.{handed}
use Rattle.translator.proofs.EffectReading.{old_refused, old_absent, old_fails, old_passes}
use Rattle.translator.proofs.operators.old.Goals as goal

pub returns-in_err-old-clause-read : goal.returns-in_err-old-clause-read
returns-in_err-old-clause-read c = rw (handed _ _ c.from_residual.ensures.1) (old_refused _ _ _ c.requires c.in_err-old.field-0.0 c.in_err-old.ensures.read)

pub returns-in_err-judged-clause-read : goal.returns-in_err-judged-clause-read
returns-in_err-judged-clause-read c =
    rw (handed _ _ c.from_residual-in_err-judged.ensures.1)
    (old_fails _ _ _ c.requires c.signed.new.self.at c.in-Some.value (rw c.in-Some.is at c.in_ok-old.ensures.told) (rw c.in-Some.is at c.in_ok-old.ensures.read) c.in_err-judged.field-0.0 c.in_err-judged.ensures)

pub returns-in_ok-judged-clause-read : goal.returns-in_ok-judged-clause-read
returns-in_ok-judged-clause-read c =
    old_passes _ _ _ c.requires c.signed.new.self.at c.in-Some.value (rw c.in-Some.is at c.in_ok-old.ensures.told) (rw c.in-Some.is at c.in_ok-old.ensures.read) c.in_ok-judged.ensures

pub returns-in_default-clause-read : goal.returns-in_default-clause-read
returns-in_default-clause-read c = rw c.in_default.is (old_absent _ _ _ c.requires c.signed.new.self.at (rw c.in_default.is at c.in_ok-old.ensures.read))
