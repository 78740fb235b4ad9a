use mathlib.Core.Path.{refl, ◌∙◌}
use native.Mathlib.Omega.{arith}
use Rattle.translator.proofs.Calls.{handed, texts, closed}
use Rattle.translator.proofs.EffectsReading.{effects_from, effects_on, effects_stop, effects_end, effects_up}
use borrow.Author.Rules.{rules}
use Rattle.translator.proofs.operators.effects_of.Goals as goal

pub loop-init : goal.loop-init
loop-init c = (refl, λ first rows. effects_from _ _ first _ _ _ _ _ _ c.requires.effects_room.room c.clear_row.ensures rows, refl, search rules)

pub effect-requires : goal.effect-requires
effect-requires c =
    record {
      few = c.requires.few;
      conditions_room = record { room = omega (arith, c.requires.conditions_room.room, c.loop.invariant.2) };
      effects_room = record { room = omega (arith, c.requires.effects_room.room, c.loop.invariant.3) };
    }

pub returns-in_err-effect-clause-kept : goal.returns-in_err-effect-clause-kept
returns-in_err-effect-clause-kept c = c.effect.ensures.kept ∙ c.loop.invariant.0

pub returns-in_err-effect-clause-read : goal.returns-in_err-effect-clause-read
returns-in_err-effect-clause-read c =
    let e = c.in_err-effect.field-0.0 in
    rw (handed _ _ c.from_residual.ensures.1)
    (record {
      is = λ first rows.
          effects_up _ _ _ _ first _ _ _ _ _ _
          (effects_stop _ _ first _ _ _ _ _ _ _ _ _ (effects_on _ _ first _ _ _ _ _ _ _ _ _ (c.loop.invariant.1 first rows) _ _ _ c.loop-test.true (rw (texts c.loop.invariant.0) at c.in_err-effect.ensures.read).is) (closed e))
          (closed e);
    })

pub loop-preserved : goal.loop-preserved
loop-preserved c = (
  c.effect.ensures.kept ∙ c.loop.invariant.0,
  λ first rows. effects_on _ _ first _ _ _ _ _ _ _ _ _ (c.loop.invariant.1 first rows) _ _ _ c.loop-test.true (rw (texts c.loop.invariant.0) at c.in_ok-effect.ensures.read).is,
  search rules,
  search rules,
)

pub returns-clause-kept : goal.returns-clause-kept
returns-clause-kept c = c.loop.invariant.0

pub returns-clause-read : goal.returns-clause-read
returns-clause-read c = record { is = λ first rows. effects_end _ _ first _ _ _ _ _ _ _ _ _ (c.loop.invariant.1 first rows) _ (omega (arith, c.loop-test.false)) c.clear_row.ensures }
