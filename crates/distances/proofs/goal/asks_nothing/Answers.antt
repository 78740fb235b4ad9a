-- A cell that names no value asks nothing.
use mathlib.Core.Path.{sym}
use borrow.Author.Tests.{eq-eqb, ne_eqb}
use Rattle.files.proofs.BelowLaws.{bit_true, bit_false}
use Rattle.distances.proofs.goal.asks_nothing.Goals as goal

pub returns-then-cell-eq-NO_PAIR : goal.returns-then-cell-eq-NO_PAIR
returns-then-cell-eq-NO_PAIR c = sym (bit_true _ (eq-eqb _ _ c.if-cell-eq-NO_PAIR.true))

pub returns : goal.returns
returns c = sym (bit_false _ (ne_eqb _ _ c.if-cell-eq-NO_PAIR.false))
