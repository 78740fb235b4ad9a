use Prim.Native.Nat.{◌+◌, ◌<◌}
use mathlib.Core.Path.{◌≡◌, sym, ap, ◌∙◌}
use native.Mathlib.Omega.{arith}
use lib.ListN.{length}
use Rattle.files.specs.Dense.{held}
use Rattle.files.specs.PlanFile.{plan_of}
use Rattle.plans.specs.Plan.{Total, no_steps, add_step}
use Rattle.plans.specs.Tally.{row_of, total_in}
use Rattle.plans.proofs.WalkLaws.{held_start, step_is, walking_begins, walking_next, walking_stops, walking_ends}
use Rattle.plans.proofs.walk.take_steps.Goals as goal

pub loop-i-init : goal.loop-i-init
unfolding total_in no_steps
loop-i-init c =
    let a = c.args in
    let zero : c.start-tally.result.minutes.0 ≡ 0 = ap (λ (x : Total). x.minutes) c.start-tally.ensures.counted in
    let none : c.start-tally.result.steps.0 ≡ 0 = ap (λ (x : Total). x.steps) c.start-tally.ensures.counted in (
      walking_begins (held a.task.now) (plan_of a.plan.now) c.start-tally.result
          (c.start-tally.ensures.reached ∙ held_start a.task.now _ c.state_of.ensures.copied c.state_of.ensures.zero)
          c.start-tally.ensures.counted,
      omega arith,
      none,
    )

pub returns-then-not-meets : goal.returns-then-not-meets
returns-then-not-meets c =
    let plan = plan_of c.args.plan.now in
    let l = c.loop-i in
    let below : l.i < length plan = omega (arith, c.steps-count.ensures.is) in
    let due = step_is c.args.task.now plan l.i (c.requires.known l.i below) _ _ c.action_at-action.ensures.is c.step.ensures in
    walking_stops (held c.args.task.now) plan l.tally l.i l.invariant.0 below _ due _ (sym c.meets.ensures ∙ c.if-not-meets.true) c.at.ensures

pub loop-i-preserved : goal.loop-i-preserved
unfolding total_in add_step row_of
loop-i-preserved c =
    let plan = plan_of c.args.plan.now in
    let l = c.loop-i in
    let below : l.i < length plan = omega (arith, c.steps-count.ensures.is) in
    let due = step_is c.args.task.now plan l.i (c.requires.known l.i below) _ _ c.action_at-action.ensures.is c.step.ensures in
    let minutes : c.step-tally.result.minutes.0 ≡ c.action_at-action.result.cost.0 + l.tally.minutes.0 = ap (λ (x : Total). x.minutes) c.step-tally.ensures.counted in
    let steps : c.step-tally.result.steps.0 ≡ l.tally.steps.0 + 1 = ap (λ (x : Total). x.steps) c.step-tally.ensures.counted in (
      walking_next (held c.args.task.now) plan l.tally l.i l.invariant.0 below _ due c.step-tally.result
          (sym c.meets.ensures ∙ c.if-not-meets.false)
          c.step-tally.ensures.reached
          c.step-tally.ensures.counted,
      omega (arith, c.action_at-action.ensures.cost_below),
      omega arith,
    )

pub returns : goal.returns
unfolding held
returns c =
    let l = c.loop-i in
    c.ended.ensures
    ∙ walking_ends (held c.args.task.now) (plan_of c.args.plan.now) l.tally l.i _ l.invariant.0
    (omega (arith, c.steps-count.ensures.is)) (omega (arith, c.steps-count.ensures.is)) (sym c.row_at-goal.ensures)
