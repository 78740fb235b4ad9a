use Rattle.std.proofs.Common.{ℕ, ◌≡◌, ◌+◌, ◌<◌, suc, arith}
use mathlib.Core.Path.{subst}
use Rattle.distances.specs.Entries.{table_entry}
use Rattle.search.specs.ReadOff.{searched_of}
use Rattle.search.proofs.Stepping.{Stepping, steps_begin, can_know, can_lead, can_put, steps_next, steps_end}
use Rattle.search.proofs.work_table.write_steps.Goals as goal

pub loop-i-init : goal.loop-i-init
loop-i-init c = steps_begin (table_entry c.args.table.now) c.args.plan.now c.args.steps.0 (searched_of c.args.searched.now) c.args.origin.now c.args.searched.now.task.sizes c.args.searched.now.task.costs c.args.searched.now.rows.words c.args.searched.now.moves.actions c.requires

pub here-here-requires : goal.here-here-requires
here-here-requires c =
    let some : 0 < c.args.steps.0 = omega (arith, c.loop-i-test.true) in
    can_know (table_entry c.args.table.now) c.args.plan.now c.args.steps.0 (searched_of c.args.searched.now) c.args.origin.now c.args.searched.now.task.sizes c.args.searched.now.task.costs c.args.searched.now.rows.words c.args.searched.now.moves.actions (c.requires some)

pub first_step-step-requires : goal.first_step-step-requires
first_step-step-requires c =
    let some : 0 < c.args.steps.0 = omega (arith, c.loop-i-test.true) in
    can_lead (table_entry c.args.table.now) c.args.plan.now c.args.steps.0 (searched_of c.args.searched.now) c.args.origin.now c.args.searched.now.task.sizes c.args.searched.now.task.costs c.args.searched.now.rows.words c.args.searched.now.moves.actions c.loop-i.state c.loop-i.i c.loop-i.plan (c.requires some) c.loop-i.invariant c.loop-i-test.true c.here-here.result c.here-here.ensures

pub put_step-state-requires : goal.put_step-state-requires
put_step-state-requires c =
    let some : 0 < c.args.steps.0 = omega (arith, c.loop-i-test.true) in
    can_put (table_entry c.args.table.now) c.args.plan.now c.args.steps.0 (searched_of c.args.searched.now) c.args.origin.now c.args.searched.now.task.sizes c.args.searched.now.task.costs c.args.searched.now.rows.words c.args.searched.now.moves.actions c.loop-i.state c.loop-i.i c.loop-i.plan c.first_step-step.result.action.0 (c.requires some) c.loop-i.invariant c.loop-i-test.true c.first_step-step.ensures.below

pub loop-i-preserved : goal.loop-i-preserved
loop-i-preserved c =
    let some : 0 < c.args.steps.0 = omega (arith, c.loop-i-test.true) in
    let one : suc c.loop-i.i ≡ c.loop-i.i + 1 = omega arith in
    subst
    (λ (i : ℕ). Stepping (table_entry c.args.table.now) c.args.plan.now c.args.steps.0 (searched_of c.args.searched.now) c.args.origin.now c.args.searched.now.task.sizes c.args.searched.now.task.costs c.args.searched.now.rows.words c.args.searched.now.moves.actions c.put_step-state.result i c.put_step-state.new.plan)
    one
    (steps_next (table_entry c.args.table.now) c.args.plan.now c.args.steps.0 (searched_of c.args.searched.now) c.args.origin.now c.args.searched.now.task.sizes c.args.searched.now.task.costs c.args.searched.now.rows.words c.args.searched.now.moves.actions c.loop-i.state c.loop-i.i c.loop-i.plan (c.requires some) c.loop-i.invariant c.loop-i-test.true c.here-here.result c.here-here.ensures
    c.first_step-step.result c.first_step-step.ensures c.put_step-state.result c.put_step-state.new.plan c.put_step-state.ensures)

pub returns : goal.returns
returns c =
    let all : c.loop-i.i ≡ c.args.steps.0 = omega (arith, c.loop-i-test.false) in
    steps_end (table_entry c.args.table.now) c.args.plan.now c.args.steps.0 (searched_of c.args.searched.now) c.args.origin.now c.args.searched.now.task.sizes c.args.searched.now.task.costs c.args.searched.now.rows.words c.args.searched.now.moves.actions c.loop-i.state c.loop-i.plan (subst (λ (i : ℕ). Stepping (table_entry c.args.table.now) c.args.plan.now c.args.steps.0 (searched_of c.args.searched.now) c.args.origin.now c.args.searched.now.task.sizes c.args.searched.now.task.costs c.args.searched.now.rows.words c.args.searched.now.moves.actions c.loop-i.state i c.loop-i.plan) all c.loop-i.invariant)
