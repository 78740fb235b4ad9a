use Rattle.std.proofs.Common.{◌<◌, ◌^◌, arith, refl}
use mathlib.Core.Path.{◌∙◌}
use Rattle.std.specs.Prelude.{Ok, Err}
use Rattle.files.specs.Bytes.{Octets}
use Rattle.files.proofs.Guards.{refused_number}
use Rattle.reduction.specs.Reduce.{buffers, reduced_of}
use Rattle.search.specs.Planner.{lent_of, search_buffers, planned_of}
use Rattle.search.proofs.StageLaws.{can_search_files, plans_early, plans_both, planned_up, together_done, together_refused}
use Rattle.search.proofs.PlannerRight.{plans_right}
use Rattle.search.proofs.plan.Goals as goal

pub returns-in_err-first : goal.returns-in_err-first
returns-in_err-first c =
    let r = c.in_err-first.field-0.0 in
    plans_right c.args.task.now c.args.level c.args.signer (lent_of c.args.actions.now c.args.facts.now c.args.reduced.now c.args.origin.now c.args.table.now c.args.plan.now) (planned_of c.from_residual.result)
    (lent_of c.reduce_taken.new.actions c.reduce_taken.new.facts c.reduce_taken.new.reduced c.reduce_taken.new.origin c.args.table.now c.args.plan.now)
    (rw (planned_up c.from_residual.result r c.from_residual.ensures.1) (plans_early c.args.task.now c.args.level c.args.signer (buffers c.args.actions.now c.args.facts.now c.args.reduced.now c.args.origin.now) (reduced_of (Err r)) (buffers c.reduce_taken.new.actions c.reduce_taken.new.facts c.reduce_taken.new.reduced c.reduce_taken.new.origin) c.in_err-first.ensures (refused_number r) c.args.table.now c.args.plan.now))

pub search-requires : goal.search-requires
search-requires c =
    let octets : Octets c.args.task.now = λ i. omega (arith, c.type_inv.task i) in
    let small : c.args.signer < 2 ^ 32 = omega (arith, c.ranges.signer) in
    can_search_files c.args.task.now c.args.level c.args.signer (buffers c.args.actions.now c.args.facts.now c.args.reduced.now c.args.origin.now) (reduced_of (Ok c.in_ok-first.first)) (buffers c.reduce_taken.new.actions c.reduce_taken.new.facts c.reduce_taken.new.reduced c.reduce_taken.new.origin) c.in_ok-first.ensures octets small refl

pub returns-in_err-found : goal.returns-in_err-found
returns-in_err-found c =
    let octets : Octets c.args.task.now = λ i. omega (arith, c.type_inv.task i) in
    let small : c.args.signer < 2 ^ 32 = omega (arith, c.ranges.signer) in
    let r = c.in_err-found.field-0.0 in
    plans_right c.args.task.now c.args.level c.args.signer (lent_of c.args.actions.now c.args.facts.now c.args.reduced.now c.args.origin.now c.args.table.now c.args.plan.now) (planned_of c.from_residual-in_err-found.result)
    (lent_of c.reduce_taken.new.actions c.reduce_taken.new.facts c.reduce_taken.new.reduced c.reduce_taken.new.origin c.search.new.table c.search.new.plan)
    (plans_both c.args.task.now c.args.level c.args.signer (buffers c.args.actions.now c.args.facts.now c.args.reduced.now c.args.origin.now) (reduced_of (Ok c.in_ok-first.first)) (buffers c.reduce_taken.new.actions c.reduce_taken.new.facts c.reduce_taken.new.reduced c.reduce_taken.new.origin) c.in_ok-first.ensures octets small refl (search_buffers c.args.table.now c.args.plan.now) (search_buffers c.search.new.table c.search.new.plan) (Err r) c.in_err-found.ensures _ (planned_up c.from_residual-in_err-found.result r c.from_residual-in_err-found.ensures.1 ∙ together_refused (reduced_of (Ok c.in_ok-first.first)) _ r))

pub returns : goal.returns
returns c =
    let octets : Octets c.args.task.now = λ i. omega (arith, c.type_inv.task i) in
    let small : c.args.signer < 2 ^ 32 = omega (arith, c.ranges.signer) in
    plans_right c.args.task.now c.args.level c.args.signer (lent_of c.args.actions.now c.args.facts.now c.args.reduced.now c.args.origin.now c.args.table.now c.args.plan.now) _
    (lent_of c.reduce_taken.new.actions c.reduce_taken.new.facts c.reduce_taken.new.reduced c.reduce_taken.new.origin c.search.new.table c.search.new.plan)
    (plans_both c.args.task.now c.args.level c.args.signer (buffers c.args.actions.now c.args.facts.now c.args.reduced.now c.args.origin.now) (reduced_of (Ok c.in_ok-first.first)) (buffers c.reduce_taken.new.actions c.reduce_taken.new.facts c.reduce_taken.new.reduced c.reduce_taken.new.origin) c.in_ok-first.ensures octets small refl (search_buffers c.args.table.now c.args.plan.now) (search_buffers c.search.new.table c.search.new.plan) (Ok c.in_ok-found.found) c.in_ok-found.ensures _ (together_done (reduced_of (Ok c.in_ok-first.first)) c.in_ok-found.found 0))
