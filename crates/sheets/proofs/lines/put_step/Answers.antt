-- Each part of the line is placed behind the parts before it.
use mathlib.Core.Path.{ap, ◌∙◌}
use native.Mathlib.Omega.{arith}
use lib.ListN.{length}
use Rattle.digits.proofs.DecimalLaws.{decimal_few}
use Rattle.files.proofs.Placed.{placed_length}
use Rattle.sheets.proofs.LineLaws.{step_written}
use borrow.Author.Rules.{rules}
use Rattle.sheets.proofs.lines.put_step.Goals as goal

pub put_column-requires : goal.put_column-requires
put_column-requires c = let wide = decimal_few _ 4 (omega arith) c.requires.numbers.step_fits in search rules

pub put_column-requires-2 : goal.put_column-requires-2
put_column-requires-2 c = let wide = decimal_few _ 5 (omega arith) c.requires.numbers.action_fits in search rules

pub put_column-requires-3 : goal.put_column-requires-3
put_column-requires-3 c = let wide = decimal_few _ 9 (omega arith) c.requires.numbers.minutes_fit in search rules

pub put_column-requires-4 : goal.put_column-requires-4
put_column-requires-4 c = let wide = decimal_few _ 12 (omega arith) c.requires.numbers.total_fits in search rules

pub returns : goal.returns
returns c =
    step_written _ _ _ _ c.requires.numbers c.args.page.now _ _ _ _ _ c.args.at
    c.put_column.ensures
    c.put_blanks.ensures
    c.put_column-2.ensures
    c.put_column-3.ensures
    c.put_column-4.ensures

pub shape_of-page : goal.shape_of-page
shape_of-page c = ap length (returns c) ∙ placed_length _ _ _
