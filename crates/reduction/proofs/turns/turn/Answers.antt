-- Reduction, reach and striking in turn: what they leave is the task after a turn, with its origins composed.
use mathlib.Core.Path.{ap, ◌∙◌}
use Rattle.files.specs.Accepted.{accepted_task}
use Rattle.reduction.proofs.TurnHeld.{reduced_is, left_numbered, left_within, later_numbered, leaves_same, leaves_other}
use Rattle.reduction.proofs.TurnsRight.{reduced_is_accepted}
use Rattle.reduction.proofs.turns.turn.Goals as goal

pub fill-requires : goal.fill-requires
fill-requires c = c.requires.accepted

-- the reduced task is accepted
pub reached-marks-requires : goal.reached-marks-requires
reached-marks-requires c = ap accepted_task (reduced_is _ _ _ c.requires _ _ c.fill.ensures) ∙ reduced_is_accepted _ c.requires.accepted

pub map_actions-requires-clause-numbers : goal.map_actions-requires-clause-numbers
map_actions-requires-clause-numbers c = left_numbered _ _ _ c.requires _ _ c.fill.ensures c.reached-marks.result _ _ c.reached-marks.ensures c.originals-count.ensures

pub unmoved-requires : goal.unmoved-requires
unmoved-requires c = left_within _ _ _ c.requires _ _ c.fill.ensures c.reached-marks.result _ _ c.reached-marks.ensures c.originals-count.ensures

pub returns-then-unmoved : goal.returns-then-unmoved
returns-then-unmoved c = leaves_same _ _ _ c.requires _ _ c.fill.ensures c.reached-marks.result _ _ c.reached-marks.ensures c.originals-count.ensures _ c.unmoved.ensures c.if-unmoved.true

pub choose-requires : goal.choose-requires
choose-requires c = left_numbered _ _ _ c.requires _ _ c.fill.ensures c.reached-marks.result _ _ c.reached-marks.ensures c.originals-count.ensures

pub compose-requires : goal.compose-requires
compose-requires c = later_numbered _ _ _ c.requires _ _ c.fill.ensures c.reached-marks.result _ _ c.reached-marks.ensures c.originals-count.ensures _ c.map_actions.ensures

pub returns : goal.returns
returns c =
    leaves_other _ _ _ c.requires _ _ c.fill.ensures c.reached-marks.result _ _ c.reached-marks.ensures c.originals-count.ensures _ c.map_actions.ensures _ c.choose.ensures _ c.compose.ensures _ c.unmoved.ensures c.if-unmoved.false
