use mathlib.Core.Path.{refl, ◌∙◌}
use native.Mathlib.Omega.{arith}
use Rattle.translator.proofs.Calls.{handed, texts, closed, opened}
use Rattle.translator.proofs.StartReading.{starts_start, starts_next, starts_up, starts_end}
use Rattle.translator.proofs.variables.starts.Goals as goal

pub loop-v-init : goal.loop-v-init
loop-v-init c = (refl, starts_start _ _ _ _ _)

pub value-requires : goal.value-requires
value-requires c = omega (arith, c.type_inv.sizes c.loop-v.v)

pub returns-in_err-start-clause-kept : goal.returns-in_err-start-clause-kept
returns-in_err-start-clause-kept c = c.value.ensures.kept ∙ c.loop-v.invariant.0

pub returns-in_err-start-clause-read : goal.returns-in_err-start-clause-read
returns-in_err-start-clause-read c =
    rw (handed _ _ c.from_residual.ensures.1)
    (starts_up _ _ _ _ _ _ _ _ (omega (arith, c.requires.sizes_room, c.requires.inside.few)) c.loop-v.invariant.1 _ _ c.loop-v-test.true (rw (texts c.loop-v.invariant.0, c.from.ensures) at c.in_err-start.ensures.read) (opened _) (closed c.in_err-start.field-0.0))

pub loop-v-preserved : goal.loop-v-preserved
loop-v-preserved c =
    (c.value.ensures.kept ∙ c.loop-v.invariant.0, starts_next _ _ _ _ _ _ _ _ (omega (arith, c.requires.sizes_room, c.requires.inside.few)) c.loop-v.invariant.1 _ c.loop-v-test.true (rw (texts c.loop-v.invariant.0, c.from.ensures) at c.in_ok-start.ensures.read))

pub returns-clause-kept : goal.returns-clause-kept
returns-clause-kept c = c.loop-v.invariant.0

pub returns-clause-read : goal.returns-clause-read
returns-clause-read c = starts_end _ _ _ _ _ _ _ _ (omega (arith, c.requires.sizes_room, c.requires.inside.few)) c.loop-v.invariant.1 c.loop-v-test.false
