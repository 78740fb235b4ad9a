-- A cell that is not there names nothing; where its variable counts whole it names its values, else the place of its own.
use Prim.Native.Nat.{◌+◌, ◌*◌, ◌%◌}
use mathlib.Core.Path.{refl}
use mathlib.Core.Bool.{true}
use native.Mathlib.Omega.{arith}
use borrow.Author.Tests.{eq-eqb, ne_eqb}
use Rattle.marking.specs.Dense.{names_at}
use Rattle.marking.proofs.SetWhere.{set_none, set_alike, set_place}
use Rattle.marking.proofs.Places.{place_is}
use Rattle.marking.proofs.gains.name_cell.Goals as goal

pub returns-then-cell-eq-NO_PAIR : goal.returns-then-cell-eq-NO_PAIR
unfolding names_at
returns-then-cell-eq-NO_PAIR c = set_none _ _ (λ i. rw (eq-eqb _ 255 c.if-cell-eq-NO_PAIR.true) refl)

pub returns-then-whole : goal.returns-then-whole
unfolding names_at
returns-then-whole c =
    let r = c.name_values in
    set_alike _ _ _ _ (λ i. rw (ne_eqb _ 255 c.if-cell-eq-NO_PAIR.false, c.if-whole.true) refl) r.ensures

pub returns : goal.returns
unfolding names_at
returns c =
    let a = c.args in
    set_alike _ _ _ _ (λ i. rw (ne_eqb _ 255 c.if-cell-eq-NO_PAIR.false, c.if-whole.false) (place_is a.v (a.cell % 32) i (omega arith)))
    (set_place true _ (32 * a.v + a.cell % 32) 1 (omega arith) refl)
