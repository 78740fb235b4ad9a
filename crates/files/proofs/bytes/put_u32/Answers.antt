-- The lower bytes of the number, the lowest first, are copied into their place.
use Rattle.std.proofs.Common.{◌≡◌, ◌/◌, ◌%◌, ℕ, [], ◌∷◌, arith}
use mathlib.Core.Path.{◌∙◌}
use Rattle.files.specs.Bytes.{u32_bytes, u16_bytes}
use Rattle.files.proofs.Placed.{placed_at_once}
use Rattle.files.proofs.bytes.put_u32.Goals as goal

pub returns : goal.returns
unfolding u32_bytes u16_bytes
returns c =
    let n : ℕ = c.args.n in
    let m : ℕ = n % 4294967296 in
    let b0 : m % 256 ≡ n % 256 = omega arith in
    let b1 : m / 256 % 256 ≡ n / 256 % 256 = omega arith in
    let b2 : m / 65536 % 256 ≡ n / 65536 % 256 = omega arith in
    let b3 : m / 16777216 % 256 ≡ n / 16777216 % 256 = omega arith in
    let low : c.to_le_bytes.result ≡ u32_bytes n = c.to_le_bytes.ensures ∙ (λ i. b0 i ∷ b1 i ∷ b2 i ∷ b3 i ∷ []) in
    placed_at_once c.args.buffer.now c.args.at _ (u32_bytes n) _ c.requires (omega arith) (c.copy_from_slice.ensures.after ∙ low)
