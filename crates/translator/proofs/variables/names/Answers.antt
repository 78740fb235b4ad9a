use mathlib.Core.Path.{refl, ◌∙◌}
use Rattle.translator.specs.Fields.{name}
use Rattle.translator.specs.Format.{field, gives}
use Rattle.translator.specs.Text.{any, name_lines}
use Rattle.translator.proofs.InsideReading.{step_after_lem}
use Rattle.translator.proofs.Calls.{handed, texts, closed}
use Rattle.translator.proofs.RepeatReading.{each_from, each_all, each_on, each_up}
use Rattle.translator.proofs.variables.names.Goals as goal

pub loop-init : goal.loop-init
loop-init c = (refl, each_from (field name any gives) _ _ _)

pub returns-in_err-name-clause-kept : goal.returns-in_err-name-clause-kept
returns-in_err-name-clause-kept c = c.name.ensures.kept ∙ c.loop.invariant.0

pub returns-in_err-name-clause-read : goal.returns-in_err-name-clause-read
unfolding name_lines
returns-in_err-name-clause-read c =
    rw (handed _ _ c.from_residual.ensures.1)
    (each_up (field name any gives) _ _ _ _ _ c.loop.invariant.1 _ c.loop-test.true ((rw (texts c.loop.invariant.0) at c.in_err-name.ensures.read) ∙ step_after_lem name _ _) (closed c.in_err-name.field-0.0))

pub loop-preserved : goal.loop-preserved
loop-preserved c = (c.name.ensures.kept ∙ c.loop.invariant.0, each_on (field name any gives) _ _ _ _ _ c.loop.invariant.1 _ c.loop-test.true ((rw (texts c.loop.invariant.0) at c.in_ok-name.ensures.read) ∙ step_after_lem name _ _))

pub returns-clause-kept : goal.returns-clause-kept
returns-clause-kept c = c.loop.invariant.0

pub returns-clause-read : goal.returns-clause-read
unfolding name_lines
returns-clause-read c = each_all (field name any gives) _ _ _ _ _ c.loop.invariant.1 c.loop-test.false
