-- No variable past the row has a pair.
use mathlib.Core.Path.{refl, ◌∙◌}
use borrow.Author.Tests.{le-leb}
use Rattle.translator.proofs.RowReading.{new_beyond, new_cell}
use Rattle.translator.proofs.lists.is_new.Goals as goal

pub returns-then-variable-ge-ROW : goal.returns-then-variable-ge-ROW
returns-then-variable-ge-ROW c = le-leb _ _ c.if-variable-ge-ROW.true ∙ new_beyond _ _ _ c.if-variable-ge-ROW.true

pub returns-else-variable-ge-ROW : goal.returns-else-variable-ge-ROW
returns-else-variable-ge-ROW c = new_cell _ _ _ _ c.if-variable-ge-ROW.false refl
