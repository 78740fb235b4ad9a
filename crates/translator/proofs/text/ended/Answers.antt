-- The count of axioms, then the end.
use native.Mathlib.Omega.{arith}
use mathlib.Core.Path.{refl, ap, ◌∙◌}
use Rattle.files.specs.Outcome.{outcome_of}
use Rattle.files.proofs.Guards.{refused_number}
use Rattle.translator.proofs.Calls.{handed, texts, judged_open, judged_stop, judged_shut}
use Rattle.translator.proofs.BodyReading.{ended_refused, ended_open}
use Rattle.translator.proofs.text.ended.Goals as goal

pub returns-in_err-rules : goal.returns-in_err-rules
returns-in_err-rules c =
    let e = c.in_err-rules.field-0.0 in
    ap outcome_of (handed _ _ c.from_residual.ensures.1) ∙ ended_refused _ _ _ _ c.in_err-rules.ensures.read (judged_shut e _ _ _) (refused_number e)

pub returns-in_err-judged : goal.returns-in_err-judged
returns-in_err-judged c =
    let e = c.in_err-judged.field-0.0 in
    ap outcome_of (handed _ _ c.from_residual-in_err-judged.ensures.1) ∙ ended_refused _ _ _ _ c.in_ok-rules.ensures.read (judged_stop e c.number.new.self.at _ _ _ c.in_err-judged.ensures) (refused_number e)

pub returns : goal.returns
returns c = ended_open _ _ _ _ c.in_ok-rules.ensures.read (judged_open c.number.new.self.at _ _ _ (omega arith) c.in_ok-judged.ensures) _ refl (rw (texts c.number.ensures.kept) at c.judged-2.ensures)
