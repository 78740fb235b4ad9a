-- There are as many as the record has numbers.
use Prim.Native.Nat.{ℕ, ◌+◌, ◌/◌}
use mathlib.Core.Path.{ap, sym, ◌∙◌}
use native.Mathlib.Omega.{arith}
use Rattle.files.specs.OriginFile.{origin_of, origin_actions_place}
use Rattle.files.specs.Records.{body_length}
use Rattle.files.proofs.Numbers.{numbers_length}
use Rattle.files.proofs.origin.actions_in.Goals as goal

pub returns : goal.returns
unfolding origin_of
returns c =
    let s = c.args.s.now in
    let at = origin_actions_place s in
    let read = c.body_length.ensures.is ∙ ap (body_length s) c.actions_place.ensures.is in
    record {
      is = ap (λ (n : ℕ). n / 2) read ∙ sym (numbers_length s (at + 4) (body_length s at / 2));
      below = omega (arith, c.body_length.ensures.below);
    }
