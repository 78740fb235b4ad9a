-- The byte is looked at where the text has one.
use mathlib.Core.Path.{refl}
use Rattle.translator.proofs.CursorLaws.{byte_none, byte_other, byte_here}
use Rattle.translator.proofs.fields.Text.byte_due.Goals as goal
use Rattle.translator.proofs.fields.Text.byte_due.Goals.{then-self-at-via-then-self-at, then-self-at-via-else-self-at+then-self-at-2}

pub returns-then-self-at : goal.returns-then-self-at
returns-then-self-at c =
    elim c.then-self-at.branch [
      | then-self-at-via-then-self-at w ↦ byte_none _ _ _ _ w.if-self-at.true c.at.ensures
      | then-self-at-via-else-self-at+then-self-at-2 w ↦ byte_other _ _ _ _ w.if-self-at.false w.if-self-at-2.true c.at.ensures
    ]

pub returns : goal.returns
returns c = byte_here _ _ _ _ c.if-self-at.false c.if-self-at-2.false refl
