-- The word, the signer's column and the line feed make the last line.
use mathlib.Core.Path.{ap, ◌∙◌}
use lib.ListN.{length}
use Rattle.files.proofs.Placed.{placed_length}
use Rattle.sheets.proofs.LineLaws.{signer_wide, signed_written}
use borrow.Author.Rules.{rules}
use Rattle.sheets.proofs.lines.put_signed.Goals as goal

pub put_column-requires : goal.put_column-requires
put_column-requires c = let wide = signer_wide _ c.requires.below in search rules

pub returns : goal.returns
returns c =
    signed_written c.args.signer c.requires.below c.args.page.now _ _ c.args.at c.put_word.ensures c.put_column.ensures

pub shape_of-page : goal.shape_of-page
shape_of-page c = ap length (returns c) ∙ placed_length _ _ _
