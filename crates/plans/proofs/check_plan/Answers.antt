-- The task file, the plan file and the walk give the answer in this order; the arrays hold the file's task.
use mathlib.Core.Path.{refl, sym, ap, ◌∙◌}
use borrow.Author.Rules.{rules}
use Rattle.files.specs.Outcome.{outcome_of, in_second}
use Rattle.plans.proofs.CheckLaws.{check_first, second_refused, check_walks, handed_checked, second_file, second_done, file_steps_few, file_steps_known}
use Rattle.plans.proofs.check_plan.Goals as goal

pub returns-in_err-read : goal.returns-in_err-read
returns-in_err-read c = handed_checked _ _ c.from_residual.ensures.1 ∙ check_first _ _ _ c.in_err-read.ensures.outcome

pub returns-in_err-map_err : goal.returns-in_err-map_err
returns-in_err-map_err c =
    let second = second_file c.check.result c.map_err.result c.map_err.ensures.cases (λ e r q. search rules) in
    handed_checked _ _ c.from_residual-in_err-map_err.ensures.1
    ∙ second_refused _ _ _ _ _ _ c.in_ok-read.ensures c.check.ensures (ap outcome_of (sym c.in_err-map_err.was) ∙ second)

pub take_steps-requires : goal.take_steps-requires
take_steps-requires c =
    let second = second_file c.check.result c.map_err.result c.map_err.ensures.cases (λ e r q. search rules) in
    let listed = second_done _ (ap outcome_of (sym c.in_ok-map_err.was) ∙ second ∙ ap in_second c.check.ensures) in
    record {
      limits = c.in_ok-read.ensures.limits refl;
      few = file_steps_few _ c.args.plan.now listed;
      known = file_steps_known _ c.args.plan.now listed;
    }

pub returns : goal.returns
returns c =
    let second = second_file c.check.result c.map_err.result c.map_err.ensures.cases (λ e r q. search rules) in
    check_walks _ _ c.in_ok-read.ensures.outcome c.read.new.self.actions (c.in_ok-read.ensures.actions refl) _ _
    (ap outcome_of (sym c.in_ok-map_err.was) ∙ second ∙ ap in_second c.check.ensures)
    (c.in_ok-read.ensures.task refl) c.take_steps.ensures
