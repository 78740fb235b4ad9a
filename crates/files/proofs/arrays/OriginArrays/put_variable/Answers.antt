-- The head states 2 bytes and 2 for each value; the variable's number stands behind it, then the values.
use Rattle.std.proofs.Common.{ℕ, ◌+◌, ◌*◌, List, get_or, refl, ap, arith}
use mathlib.Core.Path.{◌∙◌}
use Rattle.files.specs.Bytes.{placed}
use Rattle.files.specs.Records.{number_bytes}
use Rattle.files.proofs.WritingOrigins.{placed_origin, row_part}
use Rattle.files.proofs.arrays.OriginArrays.put_variable.Goals as goal

pub returns : goal.returns
returns c =
    let d = c.args.self.now in
    record {
      written =
          placed_origin d.numbers d.sizes d.values c.args.i _ _ _ _ _ _ _
          refl
          refl
          c.put_head.ensures
          c.put_u16.ensures
          (c.put_numbers.ensures ∙ ap (λ (l : List ℕ). placed c.put_u16.new.buffer (c.args.at + 6) (number_bytes l)) (row_part d.values (32 * c.args.i) (get_or d.sizes c.args.i 0) _ (omega (arith, c.requires.source.known, c.requires.source.few_values)) (omega arith)));
      ends = omega arith;
    }
