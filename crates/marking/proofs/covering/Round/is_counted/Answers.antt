-- The tests in turn, and at level 4 the search.
use Rattle.std.proofs.Common.{refl, sym, ◌∙◌}
use borrow.Author.Tests.{eq-eqb, ne_eqb}
use Rattle.marking.specs.Dense.{counted_at}
use Rattle.files.proofs.LoopCounts.{leb_ltb}
use Rattle.marking.proofs.covering.Round.is_counted.Goals as goal

pub returns-then-self-a-eq1 : goal.returns-then-self-a-eq1
unfolding counted_at
returns-then-self-a-eq1 c = rw (eq-eqb _ 1 c.if-self-a-eq1.true) refl

pub returns-then-self-a-ne1 : goal.returns-then-self-a-ne1
unfolding counted_at
returns-then-self-a-ne1 c = rw (ne_eqb _ 1 c.if-self-a-eq1.false, ne_eqb _ 1 c.if-self-a-ne1.true) refl

pub returns-then-not-has_covering : goal.returns-then-not-has_covering
unfolding counted_at
returns-then-not-has_covering c =
    rw (ne_eqb _ 1 c.if-self-a-eq1.false, eq-eqb _ 1 c.if-self-a-ne1.false, sym c.has_covering.ensures ∙ c.if-not-has_covering.true) refl

pub returns : goal.returns
unfolding counted_at
returns c =
    rw (
      ne_eqb _ 1 c.if-self-a-eq1.false,
      eq-eqb _ 1 c.if-self-a-ne1.false,
      sym c.has_covering.ensures ∙ c.if-not-has_covering.false,
      ← c.coverer-by.ensures.is,
    )
    (leb_ltb c.args.self.now.task.now.actions c.coverer-by.result)
