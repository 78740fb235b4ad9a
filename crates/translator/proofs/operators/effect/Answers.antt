-- The fields of an effect, one behind another; then both values are stored.
use mathlib.Core.Path.{refl, ◌∙◌}
use native.Mathlib.Omega.{arith}
use Rattle.translator.specs.Clauses.{coded, same}
use Rattle.translator.specs.Format.{cursor_at}
use Rattle.translator.specs.ListContracts.{variable_of, value_below}
use Rattle.translator.specs.OperatorContracts.{old_below}
use Rattle.translator.proofs.Calls.{handed, texts, opened, closed, by_shut}
use Rattle.translator.proofs.EffectReading.{stored_told, effect_up, effect_stored}
use Rattle.translator.proofs.operators.effect.Goals as goal

pub variable-requires : goal.variable-requires
variable-requires c = record { first_room = c.requires.conditions_room; second_room = c.requires.effects_room; few = c.requires.few }

pub old-requires : goal.old-requires
old-requires c = omega (arith, c.byte_at-size.ensures.below)

pub value-requires : goal.value-requires
value-requires c = omega (arith, c.byte_at-size.ensures.below)

pub store_old-requires : goal.store_old-requires
store_old-requires c = c.requires.conditions_room

pub store-requires : goal.store-requires
store-requires c = c.requires.effects_room.room

pub returns-in_err-plain-clause-read : goal.returns-in_err-plain-clause-read
returns-in_err-plain-clause-read c =
    let text = c.args.text.now in
    let sizes = c.args.sizes.now in
    let e = c.in_err-plain.field-0.0 in
    rw (handed _ _ c.from_residual.ensures.1)
    (record {
      is = λ given rows.
          effect_up _ _ _ given _ _ c.args.base _ _ _
          (effect_stored text.bytes.now (cursor_at text.at) sizes given c.args.conditions.now c.args.effects.now c.args.base _ _ _ _ _ c.requires.few c.requires.conditions_room.room c.requires.effects_room.room rows
          c.in_err-plain.ensures.read (by_shut _ e (variable_of sizes given) same) refl (omega (arith, c.type_inv.sizes 0)) (by_shut _ e (old_below _) coded) (by_shut _ e (value_below _) same) _ _ refl refl).cursor
          (closed e);
    })

pub returns-in_err-given-clause-read : goal.returns-in_err-given-clause-read
returns-in_err-given-clause-read c =
    let text = c.args.text.now in
    let sizes = c.args.sizes.now in
    let e = c.in_err-given.field-0.0 in
    rw (handed _ _ c.from_residual-in_err-given.ensures.1)
    (record {
      is = λ given rows.
          effect_up _ _ _ given _ _ c.args.base _ _ _
          (effect_stored text.bytes.now (cursor_at text.at) sizes given c.args.conditions.now c.args.effects.now c.args.base _ _ _ _ _ c.requires.few c.requires.conditions_room.room c.requires.effects_room.room rows
          c.in_ok-plain.ensures.read ((rw (texts c.plain.ensures.kept) at c.in_err-given.ensures.read).is sizes given refl (λ o. rows (opened _))) refl (omega (arith, c.type_inv.sizes 0)) (by_shut _ e (old_below _) coded) (by_shut _ e (value_below _) same) _ _ refl refl).cursor
          (closed e);
    })

pub returns-in_err-before-clause-read : goal.returns-in_err-before-clause-read
returns-in_err-before-clause-read c =
    let text = c.args.text.now in
    let sizes = c.args.sizes.now in
    let e = c.in_err-before.field-0.0 in
    rw (handed _ _ c.from_residual-in_err-before.ensures.1)
    (record {
      is = λ given rows.
          effect_up _ _ _ given _ _ c.args.base _ _ _
          (effect_stored text.bytes.now (cursor_at text.at) sizes given c.args.conditions.now c.args.effects.now c.args.base _ _ _ _ _ c.requires.few c.requires.conditions_room.room c.requires.effects_room.room rows
          c.in_ok-plain.ensures.read ((rw (texts c.plain.ensures.kept) at c.in_ok-given.ensures.read).is sizes given refl (λ o. rows (opened _))) c.byte_at-size.ensures.is c.byte_at-size.ensures.below (rw (texts (c.variable.ensures.kept ∙ c.plain.ensures.kept)) at c.in_err-before.ensures.read) (by_shut _ e (value_below _) same) _ _ refl refl).cursor
          (closed e);
    })

pub returns-in_err-new-clause-read : goal.returns-in_err-new-clause-read
returns-in_err-new-clause-read c =
    let text = c.args.text.now in
    let sizes = c.args.sizes.now in
    let e = c.in_err-new.field-0.0 in
    rw (handed _ _ c.from_residual-in_err-new.ensures.1)
    (record {
      is = λ given rows.
          effect_up _ _ _ given _ _ c.args.base _ _ _
          (effect_stored text.bytes.now (cursor_at text.at) sizes given c.args.conditions.now c.args.effects.now c.args.base _ _ _ _ _ c.requires.few c.requires.conditions_room.room c.requires.effects_room.room rows
          c.in_ok-plain.ensures.read ((rw (texts c.plain.ensures.kept) at c.in_ok-given.ensures.read).is sizes given refl (λ o. rows (opened _))) c.byte_at-size.ensures.is c.byte_at-size.ensures.below (rw (texts (c.variable.ensures.kept ∙ c.plain.ensures.kept)) at c.in_ok-before.ensures.read) (rw (texts (c.old.ensures.kept ∙ c.variable.ensures.kept ∙ c.plain.ensures.kept)) at c.in_err-new.ensures.read) _ _ refl refl).cursor
          (closed e);
    })

pub returns-clause-read : goal.returns-clause-read
returns-clause-read c =
    let text = c.args.text.now in
    let sizes = c.args.sizes.now in
    record {
      is = λ given rows.
          effect_stored text.bytes.now (cursor_at text.at) sizes given c.args.conditions.now c.args.effects.now c.args.base _ _ _ _ _ c.requires.few c.requires.conditions_room.room c.requires.effects_room.room rows
          c.in_ok-plain.ensures.read ((rw (texts c.plain.ensures.kept) at c.in_ok-given.ensures.read).is sizes given refl (λ o. rows (opened _))) c.byte_at-size.ensures.is c.byte_at-size.ensures.below (rw (texts (c.variable.ensures.kept ∙ c.plain.ensures.kept)) at c.in_ok-before.ensures.read) (rw (texts (c.old.ensures.kept ∙ c.variable.ensures.kept ∙ c.plain.ensures.kept)) at c.in_ok-new.ensures.read)
          _ _ (c.store_old.ensures ∙ stored_told _ _ _ _ c.in_ok-before.ensures.told) c.store.ensures;
    }
