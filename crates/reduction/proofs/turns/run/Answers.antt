use native.Mathlib.Omega.{arith}
use Rattle.reduction.proofs.TurnsGoOn.{final_marks, begins, ends, next_accepted, goes_on_lem, turns_less, turns_few}
use Rattle.reduction.proofs.Within.{task_within}
use Rattle.reduction.proofs.turns.run.Goals as goal

pub own-requires : goal.own-requires
own-requires c = task_within _ c.requires.accepted

pub loop-turns-init : goal.loop-turns-init
loop-turns-init c = begins _ _ _ c.requires c.own.ensures

pub turn-unchanged-requires : goal.turn-unchanged-requires
turn-unchanged-requires c =
    let g = c.loop-turns.invariant in
    record { accepted = g.accepted; marks = g.marks; origin = g.inside }

pub overflow_add-turns : goal.overflow_add-turns
overflow_add-turns c =
    omega (arith, turns_few _ _ _ _ _ c.loop-turns.invariant c.requires.accepted)

pub returns-then-unchanged : goal.returns-then-unchanged
returns-then-unchanged c =
    ends _ _ _ _ _ c.loop-turns.invariant _ _ _ c.turn-unchanged.ensures c.if-unchanged.true

pub run-requires : goal.run-requires
run-requires c =
    next_accepted _ _ _ _ _ c.loop-turns.invariant _ _ _ c.turn-unchanged.ensures

pub loop-turns-smaller : goal.loop-turns-smaller
loop-turns-smaller c = turns_less _ _ _ _ _ c.loop-turns.invariant

pub loop-turns-preserved : goal.loop-turns-preserved
loop-turns-preserved c =
    goes_on_lem _ _ _ _ _ c.loop-turns.invariant _ _ _ c.turn-unchanged.ensures c.if-unchanged.false _ (final_marks _ _ _ _ _ c.run.ensures)
