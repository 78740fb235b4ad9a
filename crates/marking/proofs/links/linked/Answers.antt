-- Each test of the definition fails or passes as the code goes.
use Rattle.std.proofs.Common.{refl, sym, ◌∙◌}
use borrow.Author.Tests.{eq-eqb, ne_eqb}
use Rattle.marking.specs.Dense.{linked_cell}
use Rattle.marking.proofs.links.linked.Goals as goal

pub returns-then-not-has_links : goal.returns-then-not-has_links
unfolding linked_cell
returns-then-not-has_links c = rw (sym c.has_links.ensures ∙ c.if-not-has_links.true) refl

pub returns-then-value-start : goal.returns-then-value-start
unfolding linked_cell
returns-then-value-start c = rw (sym c.has_links.ensures ∙ c.if-not-has_links.false, eq-eqb _ _ c.if-value-start.true) refl

pub returns-else-value-start : goal.returns-else-value-start
unfolding linked_cell
returns-else-value-start c = rw (sym c.has_links.ensures ∙ c.if-not-has_links.false, ne_eqb _ _ c.if-value-start.false) refl
