-- The tests in turn: b is kept, no tracked effect is unlike.
use Rattle.std.proofs.Common.{refl}
use borrow.Author.Tests.{eq-eqb, ne_eqb}
use Rattle.marking.specs.Dense.{kept_alike}
use Rattle.marking.proofs.covering.Round.is_kept_alike.Goals as goal

pub returns-then-self-b-eq1 : goal.returns-then-self-b-eq1
unfolding kept_alike
returns-then-self-b-eq1 c = rw (eq-eqb _ 1 c.if-self-b-eq1.true, ← c.unlike.ensures) refl

pub returns-else-self-b-eq1 : goal.returns-else-self-b-eq1
unfolding kept_alike
returns-else-self-b-eq1 c = rw (ne_eqb _ 1 c.if-self-b-eq1.false) refl
