-- Behind the head of a body of 4 bytes stand the counts of variables and actions.
use native.Mathlib.Omega.{arith}
use mathlib.Core.Path.{refl, ◌∙◌}
use Rattle.files.specs.Bytes.{u16_bytes}
use Rattle.files.proofs.Writing.{placed_u16_then, placed_record}
use Rattle.files.proofs.write.put_header.Goals as goal

pub returns : goal.returns
unfolding u16_bytes
returns c =
    placed_record _ _ _ _ _ _ _ c.put_head.ensures refl
    (c.put_u16-2.ensures ∙ placed_u16_then _ _ _ _ _ _ c.put_u16.ensures (omega arith))
