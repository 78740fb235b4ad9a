-- The word is due.
use Rattle.translator.specs.Fields.{word}
use Rattle.translator.proofs.Calls.{handed, reaches}
use Rattle.translator.proofs.CursorLaws.{go, stop, word_open}
use Rattle.translator.proofs.fields.Text.word.Goals as goal
use mathlib.Core.Path.{refl}

pub returns-in_err-word_due-clause-read : goal.returns-in_err-word_due-clause-read
returns-in_err-word_due-clause-read c = rw (handed _ _ c.from_residual.ensures.1) (word_open _ _ _ _ _ refl c.in_err-word_due.ensures (stop _ _))

pub invariant_of-self : goal.invariant_of-self
invariant_of-self c =
    let self = c.args.self.now in
    record { limited = self.limited; within = reaches (word c.args.w.now) _ _ _ self.limited self.within (word_open _ _ _ _ _ refl c.in_ok-word_due.ensures (go _)) }

pub returns-clause-read : goal.returns-clause-read
returns-clause-read c = word_open _ _ _ _ _ refl c.in_ok-word_due.ensures (go _)
