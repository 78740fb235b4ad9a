use mathlib.Core.Path.{refl, ◌∙◌}
use Rattle.translator.proofs.Calls.{handed, texts, closed}
use Rattle.translator.proofs.StartReading.{declarations_start, declarations_next, declarations_up, declarations_end}
use Rattle.translator.proofs.variables.declarations.Goals as goal

pub loop-v-init : goal.loop-v-init
loop-v-init c = (refl, declarations_start _ _ _ _)

pub returns-in_err-size-clause-kept : goal.returns-in_err-size-clause-kept
returns-in_err-size-clause-kept c = c.declaration.ensures.kept ∙ c.loop-v.invariant.0

pub returns-in_err-size-clause-read : goal.returns-in_err-size-clause-read
returns-in_err-size-clause-read c =
    rw (handed _ _ c.from_residual.ensures.1)
    (declarations_up _ _ _ _ _ _ _ c.loop-v.invariant.1 _ _ c.loop-v-test.true (rw (texts c.loop-v.invariant.0) at c.in_err-size.ensures.read) (closed c.in_err-size.field-0.0))

pub loop-v-preserved : goal.loop-v-preserved
loop-v-preserved c =
    (c.declaration.ensures.kept ∙ c.loop-v.invariant.0, declarations_next _ _ _ _ _ _ _ c.loop-v.invariant.1 _ c.loop-v-test.true (rw (texts c.loop-v.invariant.0) at c.in_ok-size.ensures.read))

pub returns-clause-kept : goal.returns-clause-kept
returns-clause-kept c = c.loop-v.invariant.0

pub returns-clause-read : goal.returns-clause-read
returns-clause-read c = declarations_end _ _ _ _ _ _ _ c.loop-v.invariant.1 c.loop-v-test.false
