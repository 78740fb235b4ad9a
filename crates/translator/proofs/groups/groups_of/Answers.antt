use mathlib.Core.Path.{refl, ◌∙◌}
use Rattle.translator.specs.Text.{group}
use Rattle.translator.proofs.Calls.{handed, texts, closed}
use Rattle.translator.proofs.RepeatReading.{each_from, each_all, each_on, each_up}
use Rattle.translator.proofs.groups.groups_of.Goals as goal

pub loop-init : goal.loop-init
loop-init c = (refl, each_from (group) _ _ _)

pub returns-in_err-group-clause-kept : goal.returns-in_err-group-clause-kept
returns-in_err-group-clause-kept c = c.group.ensures.kept ∙ c.loop.invariant.0

pub returns-in_err-group-clause-read : goal.returns-in_err-group-clause-read
returns-in_err-group-clause-read c =
    rw (handed _ _ c.from_residual.ensures.1)
    (each_up (group) _ _ _ _ _ c.loop.invariant.1 _ c.loop-test.true (rw (texts c.loop.invariant.0) at c.in_err-group.ensures.read) (closed c.in_err-group.field-0.0))

pub loop-preserved : goal.loop-preserved
loop-preserved c = (c.group.ensures.kept ∙ c.loop.invariant.0, each_on (group) _ _ _ _ _ c.loop.invariant.1 _ c.loop-test.true (rw (texts c.loop.invariant.0) at c.in_ok-group.ensures.read))

pub returns-clause-kept : goal.returns-clause-kept
returns-clause-kept c = c.loop.invariant.0

pub returns-clause-read : goal.returns-clause-read
returns-clause-read c = each_all (group) _ _ _ _ _ c.loop.invariant.1 c.loop-test.false
