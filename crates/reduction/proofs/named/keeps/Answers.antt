-- Each test decides the definition.
use mathlib.Core.Path.{refl, sym, ◌∙◌}
use borrow.Author.Tests.{eq-eqb, ne_eqb}
use Rattle.reduction.specs.Dense.{keeps_at}
use Rattle.reduction.proofs.named.keeps.Goals as goal

pub returns-then-named_in-eq0 : goal.returns-then-named_in-eq0
unfolding keeps_at
returns-then-named_in-eq0 c =
    rw (eq-eqb _ 0 (sym c.named_in.ensures.is ∙ c.if-named_in-eq0.true)) refl

pub returns-then-changed-v-eq1 : goal.returns-then-changed-v-eq1
unfolding keeps_at
returns-then-changed-v-eq1 c =
    rw (ne_eqb _ 0 (λ q. c.if-named_in-eq0.false (c.named_in.ensures.is ∙ q)), eq-eqb _ 1 c.if-changed-v-eq1.true) refl

pub returns : goal.returns
unfolding keeps_at
returns c =
    rw (ne_eqb _ 0 (λ q. c.if-named_in-eq0.false (c.named_in.ensures.is ∙ q)), ne_eqb _ 1 c.if-changed-v-eq1.false) c.other_named.ensures
