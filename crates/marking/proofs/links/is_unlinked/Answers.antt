-- A fact that is not relevant is not unlinked; of another the link decides.
use mathlib.Core.Path.{refl, ap}
use mathlib.Core.Bool.{not}
use borrow.Author.Tests.{eq-eqb, ne_eqb}
use Rattle.marking.specs.Dense.{unlinked_at}
use Rattle.marking.proofs.links.is_unlinked.Goals as goal

pub returns-then-facts-place-ne1 : goal.returns-then-facts-place-ne1
unfolding unlinked_at
returns-then-facts-place-ne1 c = rw (ne_eqb _ 1 c.if-facts-place-ne1.true) refl

pub returns : goal.returns
unfolding unlinked_at
returns c = rw (eq-eqb _ 1 c.if-facts-place-ne1.false) (ap not c.linked.ensures)
