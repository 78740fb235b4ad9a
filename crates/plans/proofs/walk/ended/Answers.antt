-- The goal is tested in the state of the tally, whose minutes and steps are the plan's.
use mathlib.Core.Path.{refl, sym, ◌∙◌}
use Rattle.plans.specs.Tally.{state_of}
use Rattle.plans.proofs.WalkLaws.{end_refuses, end_passes}
use Rattle.plans.proofs.walk.ended.Goals as goal

pub returns-then-not-all_hold : goal.returns-then-not-all_hold
unfolding state_of
returns-then-not-all_hold c = end_refuses _ _ _ (sym c.all_hold.ensures ∙ c.if-not-all_hold.true) c.at.ensures

pub returns : goal.returns
unfolding state_of
returns c = end_passes _ _ _ (sym c.all_hold.ensures ∙ c.if-not-all_hold.false) refl
