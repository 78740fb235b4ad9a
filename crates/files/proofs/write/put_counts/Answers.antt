-- Behind the cost stands one count, and the other behind that.
use mathlib.Core.Path.{refl, ◌∙◌}
use Rattle.files.specs.Bytes.{u16_bytes, u32_bytes}
use Rattle.files.proofs.Placed.{placed_then}
use Rattle.files.proofs.Writing.{placed_u32_then}
use Rattle.files.proofs.write.put_counts.Goals as goal

pub returns : goal.returns
unfolding u32_bytes u16_bytes
returns c =
    c.put_u16-2.ensures
    ∙ placed_then _ _ _ _ _ _ (c.put_u16.ensures ∙ placed_u32_then _ _ _ _ _ _ c.put_u32.ensures refl) refl
