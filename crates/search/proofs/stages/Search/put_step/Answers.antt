-- The number stands in the file's part of the buffer.
use Prim.Native.Nat.{ℕ, ◌+◌, ◌*◌}
use mathlib.Core.Path.{refl, ap, ◌∙◌}
use Rattle.files.specs.Bytes.{placed, u16_bytes}
use Rattle.search.proofs.stages.Search.put_step.Goals as goal

pub original-number-requires : goal.original-number-requires
original-number-requires c = record { place_is = c.requires.place_is; place_few = c.requires.place_few; inside = c.requires.inside }

pub returns : goal.returns
returns c =
    record {
      plan_is = c.put_step.ensures ∙ ap (λ (n : ℕ). placed c.args.plan.now (4 + 2 * c.args.i) (u16_bytes n)) c.original-number.ensures;
      next_is = refl;
    }
