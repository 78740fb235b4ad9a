use mathlib.Core.Path.{refl, ◌∙◌}
use native.Mathlib.Omega.{arith}
use Rattle.translator.proofs.Calls.{handed, texts, closed}
use Rattle.translator.proofs.ConditionsReading.{conditions_from, conditions_on, conditions_stop, conditions_end, list_up}
use borrow.Author.Rules.{rules}
use Rattle.translator.proofs.lists.conditions.Goals as goal

pub loop-init : goal.loop-init
loop-init c = (refl, conditions_from _ _ _ _ _ _ _ c.requires.room.room c.clear_row.ensures, search rules)

pub condition-requires : goal.condition-requires
condition-requires c = record { few = c.requires.few; room = record { room = omega (arith, c.requires.room.room, c.loop.invariant.2) } }

pub returns-in_err-condition-clause-kept : goal.returns-in_err-condition-clause-kept
returns-in_err-condition-clause-kept c = c.condition.ensures.kept ∙ c.loop.invariant.0

pub returns-in_err-condition-clause-read : goal.returns-in_err-condition-clause-read
returns-in_err-condition-clause-read c =
    let e = c.in_err-condition.field-0.0 in
    rw (handed _ _ c.from_residual.ensures.1)
    (list_up _ _ _ _ _ _ _ _ (conditions_stop _ _ _ _ _ _ _ _ _ (conditions_on _ _ _ _ _ _ _ _ _ _ c.loop.invariant.1 _ _ c.loop-test.true (rw (texts c.loop.invariant.0) at c.in_err-condition.ensures.read)) (closed e)) (closed e))

pub loop-preserved : goal.loop-preserved
loop-preserved c =
    (c.condition.ensures.kept ∙ c.loop.invariant.0, conditions_on _ _ _ _ _ _ _ _ _ _ c.loop.invariant.1 _ _ c.loop-test.true (rw (texts c.loop.invariant.0) at c.in_ok-condition.ensures.read), search rules)

pub returns-clause-kept : goal.returns-clause-kept
returns-clause-kept c = c.loop.invariant.0

pub returns-clause-read : goal.returns-clause-read
returns-clause-read c = conditions_end _ _ _ _ _ _ _ _ _ c.loop.invariant.1 _ _ _ (omega (arith, c.loop-test.false)) refl refl c.clear_row.ensures
