-- Behind the head of a body of 8 bytes stand the signer and the count of bytes before it.
use native.Mathlib.Omega.{arith}
use mathlib.Core.Path.{refl, ◌∙◌}
use Rattle.files.specs.Bytes.{u16_bytes, u32_bytes}
use Rattle.files.proofs.Writing.{placed_u32_then, placed_record}
use Rattle.files.proofs.records.put_sign_off.Goals as goal

pub returns : goal.returns
unfolding u32_bytes u16_bytes
returns c =
    placed_record _ _ _ _ _ _ _ c.put_head.ensures refl
    (c.put_u32-2.ensures ∙ placed_u32_then _ _ _ _ _ _ c.put_u32.ensures (omega arith))
