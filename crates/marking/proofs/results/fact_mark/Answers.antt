-- The tests in turn: relevant, and unlinked.
use Rattle.std.proofs.Common.{refl}
use borrow.Author.Tests.{eq-eqb, ne_eqb}
use Rattle.marking.specs.Dense.{fact_byte}
use Rattle.marking.proofs.results.fact_mark.Goals as goal

pub returns-in-1-eq1 : goal.returns-in-1-eq1
unfolding fact_byte
returns-in-1-eq1 c = rw (eq-eqb _ 1 c.in-1-eq1.is-0, eq-eqb _ 1 c.in-1-eq1.is-1) refl

pub returns-in-1-default : goal.returns-in-1-default
unfolding fact_byte
returns-in-1-default c = rw (eq-eqb _ 1 c.in-1-default.is-0, ne_eqb _ 1 c.in-1-default.is-1.1) refl

pub returns-in_default : goal.returns-in_default
unfolding fact_byte
returns-in_default c = rw (ne_eqb _ 1 c.in_default.is-0.1) refl
