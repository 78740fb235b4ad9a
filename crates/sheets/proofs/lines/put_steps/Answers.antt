use Prim.Native.Nat.{ℕ, ◌<◌}
use native.Mathlib.Omega.{arith}
use lib.ListN.{length, get_or}
use Rattle.files.specs.PlanFile.{plan_of}
use Rattle.sheets.proofs.StepLaws.{writing_begins, writing_next, writing_ends, due_fits}
use Rattle.sheets.proofs.lines.put_steps.Goals as goal

pub loop-i-init : goal.loop-i-init
loop-i-init c = writing_begins _ _ _

pub step-action-requires : goal.step-action-requires
step-action-requires c = omega (arith, c.steps-steps.ensures.is)

pub bounds-costs-action : goal.bounds-costs-action
bounds-costs-action c =
    let l = c.loop-i in
    let plan = plan_of c.args.plan.now in
    let below : l.i < length plan = omega (arith, c.steps-steps.ensures.is, c.loop-i-test.true) in
    omega (arith, c.requires.known l.i below, c.step-action.ensures)

pub overflow_add-total : goal.overflow_add-total
overflow_add-total c = omega (arith, c.from-minutes.ensures.below, c.loop-i.invariant.sum, c.loop-i.invariant.within, c.requires.few)

pub put_step-requires : goal.put_step-requires
put_step-requires c =
    let l = c.loop-i in
    let plan = plan_of c.args.plan.now in
    let below : l.i < length plan = omega (arith, c.steps-steps.ensures.is, c.loop-i-test.true) in
    record {
      numbers = due_fits (λ (a : ℕ). get_or c.args.costs.now a 0) _ plan _ l.i l.total.0 l.invariant below c.requires.few _ _ c.step-action.ensures c.from-minutes.ensures.is (c.requires.known l.i below) (c.requires.cheap l.i below);
      room = omega (arith, l.invariant.long, c.requires.room, below);
    }

pub loop-i-preserved : goal.loop-i-preserved
loop-i-preserved c =
    let l = c.loop-i in
    let plan = plan_of c.args.plan.now in
    let below : l.i < length plan = omega (arith, c.steps-steps.ensures.is, c.loop-i-test.true) in
    writing_next (λ (a : ℕ). get_or c.args.costs.now a 0) _ plan _ l.i l.total.0 l.invariant below c.requires.few _ _ c.step-action.ensures c.from-minutes.ensures.is (c.requires.known l.i below) (c.requires.cheap l.i below) _ c.put_step.ensures

pub shape_of-page : goal.shape_of-page
shape_of-page c = c.loop-i.invariant.long

pub returns : goal.returns
returns c = writing_ends _ _ _ _ _ _ c.loop-i.invariant (omega (arith, c.steps-steps.ensures.is, c.loop-i-test.false))
