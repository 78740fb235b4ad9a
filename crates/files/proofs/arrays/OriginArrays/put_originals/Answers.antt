use Rattle.std.proofs.Common.{List, ℕ, ap, arith}
use mathlib.Core.Path.{◌∙◌}
use Rattle.files.specs.Bytes.{placed}
use Rattle.files.specs.Records.{number_bytes}
use Rattle.files.proofs.WritingOrigins.{row_part}
use Rattle.files.proofs.arrays.OriginArrays.put_originals.Goals as goal

pub returns : goal.returns
returns c =
    let d = c.args.self.now in
    c.put_numbers.ensures ∙ ap (λ (l : List ℕ). placed c.args.buffer.now c.args.at (number_bytes l)) (row_part d.originals 0 d.actions _ (omega (arith, c.requires.source)) (omega arith))
