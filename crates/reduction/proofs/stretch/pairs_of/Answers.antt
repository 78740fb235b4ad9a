-- The pairs of an action of an accepted file lie within it.
use native.Mathlib.Omega.{arith}
use Rattle.reduction.proofs.StretchLaws.{actions_few, part_within, part_is}
use Rattle.reduction.proofs.stretch.pairs_of.Goals as goal

pub action_place-at-requires : goal.action_place-at-requires
action_place-at-requires c = omega (arith, actions_few _ c.requires.accepted)

pub slice_bounds-result-end : goal.slice_bounds-result-end
slice_bounds-result-end c =
    part_within _ _ _ _ c.action_place-at.ensures.is c.conditions_in-conditions.ensures.is c.requires.accepted c.requires.below

pub returns : goal.returns
returns c = part_is _ _ _ _ c.action_place-at.ensures.is c.conditions_in-conditions.ensures.is
