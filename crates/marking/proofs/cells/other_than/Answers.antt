-- An entry that is not there is no other value; else the entry's own test.
use mathlib.Core.Path.{refl}
use borrow.Author.Tests.{eq-eqb, ne_eqb}
use Rattle.marking.specs.Dense.{other_than}
use Rattle.marking.proofs.cells.other_than.Goals as goal

pub returns-then-cell-eq-NO_PAIR : goal.returns-then-cell-eq-NO_PAIR
unfolding other_than
returns-then-cell-eq-NO_PAIR c = rw (eq-eqb _ 255 c.if-cell-eq-NO_PAIR.true) refl

pub returns : goal.returns
unfolding other_than
returns c = rw (ne_eqb _ 255 c.if-cell-eq-NO_PAIR.false) refl
