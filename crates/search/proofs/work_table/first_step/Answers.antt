use mathlib.Core.Path.{sym, subst}
use Rattle.distances.specs.Entries.{table_entry}
use Rattle.distances.specs.declared.Entry.{Entry}
use Rattle.search.specs.ReadOff.{searched_of, CanCompare, LooksOn}
use Rattle.search.proofs.Leading.{can_begin, led_first, led_compare, led_more, led_next, led_fewer, led_stop}
use Rattle.search.proofs.work_table.first_step.Goals as goal

pub step_from-step-requires : goal.step_from-step-requires
step_from-step-requires c = can_begin (table_entry c.args.table.now) (searched_of c.args.searched.now) c.args.state c.args.here.now c.args.searched.now.task.costs c.args.searched.now.moves.actions c.requires

pub loop-own-init : goal.loop-own-init
loop-own-init c = led_first (table_entry c.args.table.now) (searched_of c.args.searched.now) c.args.state c.args.here.now c.args.searched.now.task.costs c.args.searched.now.moves.actions c.requires c.step_from-step.result c.step_from-step.ensures

pub looks_on-requires : goal.looks_on-requires
looks_on-requires c =
    subst (λ (e : Entry). CanCompare c.loop-own.step.action.0 e c.args.searched.now.task.costs) (sym c.entry_at.ensures)
    (led_compare (table_entry c.args.table.now) (searched_of c.args.searched.now) c.args.state c.args.here.now c.args.searched.now.task.costs c.args.searched.now.moves.actions c.requires c.loop-own.step c.loop-own.invariant)

pub step_after-step-requires : goal.step_after-step-requires
step_after-step-requires c =
    let looks : LooksOn (searched_of c.args.searched.now) c.loop-own.step (table_entry c.args.table.now c.loop-own.step.next) c.args.searched.now.task.costs (table_entry c.args.table.now c.args.state) c.looks_on.result =
    subst (λ (e : Entry). LooksOn (searched_of c.args.searched.now) c.loop-own.step e c.args.searched.now.task.costs (table_entry c.args.table.now c.args.state) c.looks_on.result) c.entry_at.ensures
    (subst (λ (e : Entry). LooksOn (searched_of c.args.searched.now) c.loop-own.step c.entry_at.result c.args.searched.now.task.costs e c.looks_on.result) c.entry_at-own.ensures c.looks_on.ensures) in
    led_more (table_entry c.args.table.now) (searched_of c.args.searched.now) c.args.state c.args.here.now c.args.searched.now.task.costs c.args.searched.now.moves.actions c.requires c.loop-own.step c.loop-own.invariant c.looks_on.result looks c.loop-own-test.true

pub loop-own-smaller : goal.loop-own-smaller
loop-own-smaller c = led_fewer (table_entry c.args.table.now) (searched_of c.args.searched.now) c.args.state c.args.here.now c.args.searched.now.task.costs c.args.searched.now.moves.actions c.requires c.loop-own.step c.loop-own.invariant c.step_after-step.result c.step_after-step.ensures

pub loop-own-preserved : goal.loop-own-preserved
loop-own-preserved c =
    let looks : LooksOn (searched_of c.args.searched.now) c.loop-own.step (table_entry c.args.table.now c.loop-own.step.next) c.args.searched.now.task.costs (table_entry c.args.table.now c.args.state) c.looks_on.result =
    subst (λ (e : Entry). LooksOn (searched_of c.args.searched.now) c.loop-own.step e c.args.searched.now.task.costs (table_entry c.args.table.now c.args.state) c.looks_on.result) c.entry_at.ensures
    (subst (λ (e : Entry). LooksOn (searched_of c.args.searched.now) c.loop-own.step c.entry_at.result c.args.searched.now.task.costs e c.looks_on.result) c.entry_at-own.ensures c.looks_on.ensures) in
    led_next (table_entry c.args.table.now) (searched_of c.args.searched.now) c.args.state c.args.here.now c.args.searched.now.task.costs c.args.searched.now.moves.actions c.requires c.loop-own.step c.loop-own.invariant c.looks_on.result looks c.loop-own-test.true c.step_after-step.result c.step_after-step.ensures

pub returns : goal.returns
returns c =
    let looks : LooksOn (searched_of c.args.searched.now) c.loop-own.step (table_entry c.args.table.now c.loop-own.step.next) c.args.searched.now.task.costs (table_entry c.args.table.now c.args.state) c.looks_on.result =
    subst (λ (e : Entry). LooksOn (searched_of c.args.searched.now) c.loop-own.step e c.args.searched.now.task.costs (table_entry c.args.table.now c.args.state) c.looks_on.result) c.entry_at.ensures
    (subst (λ (e : Entry). LooksOn (searched_of c.args.searched.now) c.loop-own.step c.entry_at.result c.args.searched.now.task.costs e c.looks_on.result) c.entry_at-own.ensures c.looks_on.ensures) in
    led_stop (table_entry c.args.table.now) (searched_of c.args.searched.now) c.args.state c.args.here.now c.args.searched.now.task.costs c.args.searched.now.moves.actions c.requires c.loop-own.step c.loop-own.invariant c.looks_on.result looks c.loop-own-test.false
