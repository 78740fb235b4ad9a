-- The kind stands behind the body length.
use mathlib.Core.Path.{refl, ◌∙◌}
use Rattle.files.proofs.Writing.{placed_u16_then}
use Rattle.files.proofs.records.put_head.Goals as goal

pub returns : goal.returns
returns c = c.put_u16-2.ensures ∙ placed_u16_then _ _ _ _ _ _ c.put_u16.ensures refl
