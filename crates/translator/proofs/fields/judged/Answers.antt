use Rattle.files.proofs.Guards.{guard_passes, guard_refuses}
use Rattle.translator.proofs.fields.judged.Goals as goal
use mathlib.Core.Path.{refl}

pub returns-then-passes : goal.returns-then-passes
returns-then-passes c = guard_passes _ _ _ _ _ c.if-passes.true refl

pub returns : goal.returns
returns c = guard_refuses _ _ _ _ _ c.if-passes.false c.at.ensures
