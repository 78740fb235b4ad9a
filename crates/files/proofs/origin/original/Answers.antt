-- The numbers stand 2 bytes each behind the head of the record.
use Prim.Native.Nat.{ℕ, ◌+◌, ◌*◌, ◌/◌}
use mathlib.Core.Path.{sym, ap, ◌∙◌}
use native.Mathlib.Omega.{arith}
use Rattle.files.specs.Bytes.{u16_at}
use Rattle.files.specs.OriginFile.{origin_of, origin_actions_place}
use Rattle.files.specs.Records.{body_length}
use Rattle.files.proofs.Numbers.{numbers_length, numbers_entry}
use Rattle.files.proofs.origin.original.Goals as goal

pub returns : goal.returns
unfolding origin_of
returns c =
    let args = c.args in
    let pre = c.requires in
    let s = args.s.now in
    let at = origin_actions_place s + 4 in
    let count = body_length s (origin_actions_place s) / 2 in
    let i = args.action.0 in
    c.u16_at-number.ensures.is
    ∙ ap (λ (n : ℕ). u16_at s (n + 4 + 2 * i)) pre.place_is
    ∙ sym (numbers_entry s at count i (omega (arith, pre.inside, numbers_length s at count)))
