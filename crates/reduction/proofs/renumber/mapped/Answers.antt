-- By cases of the test: 255 is no pair.
use mathlib.Core.Path.{refl}
use borrow.Author.Tests.{eq-eqb, ne_eqb}
use Rattle.reduction.specs.Dense.{mapped_cell}
use Rattle.reduction.proofs.renumber.mapped.Goals as goal

pub returns-then-cell-eq-NO_PAIR : goal.returns-then-cell-eq-NO_PAIR
unfolding mapped_cell
returns-then-cell-eq-NO_PAIR c = rw (eq-eqb _ 255 c.if-cell-eq-NO_PAIR.true) refl

pub returns : goal.returns
unfolding mapped_cell
returns c = rw (ne_eqb _ 255 c.if-cell-eq-NO_PAIR.false) refl
