-- The variable, then a value of it; then both are stored.
use mathlib.Core.Path.{refl}
use native.Mathlib.Omega.{arith}
use Rattle.translator.specs.Clauses.{same}
use Rattle.translator.specs.Format.{cursor_at}
use Rattle.translator.specs.ListContracts.{value_below}
use Rattle.translator.proofs.Calls.{handed, texts, closed, by_shut}
use Rattle.translator.proofs.ListReading.{pair_stored, pair_up}
use Rattle.translator.proofs.lists.condition.Goals as goal

pub value-requires : goal.value-requires
value-requires c = omega (arith, c.byte_at.ensures.below)

pub returns-in_err-given-clause-read : goal.returns-in_err-given-clause-read
returns-in_err-given-clause-read c =
    let text = c.args.text.now in
    let sizes = c.args.sizes.now in
    let e = c.in_err-given.field-0.0 in
    rw (handed _ _ c.from_residual.ensures.1)
    (λ given rows.
    pair_up _ _ _ given _ c.args.base _ _
    (pair_stored text.bytes.now (cursor_at text.at) sizes given _ c.args.base _ _ _ c.requires.few c.requires.room.room rows (c.in_err-given.ensures.read.is sizes given refl rows) refl (omega (arith, c.type_inv.sizes 0)) (by_shut _ e (value_below _) same) _ refl).cursor
    (closed e))

pub returns-in_err-stated-clause-read : goal.returns-in_err-stated-clause-read
returns-in_err-stated-clause-read c =
    let text = c.args.text.now in
    let sizes = c.args.sizes.now in
    let e = c.in_err-stated.field-0.0 in
    rw (handed _ _ c.from_residual-in_err-stated.ensures.1)
    (λ given rows.
    pair_up _ _ _ given _ c.args.base _ _
    (pair_stored text.bytes.now (cursor_at text.at) sizes given _ c.args.base _ _ _ c.requires.few c.requires.room.room rows (c.in_ok-given.ensures.read.is sizes given refl rows) c.byte_at.ensures.is c.byte_at.ensures.below (rw (texts c.variable.ensures.kept) at c.in_err-stated.ensures.read) _ refl).cursor
    (closed e))

pub returns-clause-read : goal.returns-clause-read
returns-clause-read c =
    let text = c.args.text.now in
    let sizes = c.args.sizes.now in
    λ given rows.
    pair_stored text.bytes.now (cursor_at text.at) sizes given _ c.args.base _ _ _ c.requires.few c.requires.room.room rows (c.in_ok-given.ensures.read.is sizes given refl rows) c.byte_at.ensures.is c.byte_at.ensures.below (rw (texts c.variable.ensures.kept) at c.in_ok-stated.ensures.read) _ c.store.ensures
