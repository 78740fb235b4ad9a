-- The first file, the second, and the action below the count that the side's file states.
use Rattle.std.proofs.Common.{refl, sym, ap, ◌∙◌}
use Rattle.files.specs.Outcome.{outcome_of, is_done, in_second}
use Rattle.files.proofs.Guards.{stops_up, goes_done, stops_refused, goes_lt, stops_lt}
use Rattle.reduction.specs.Stretch.{stretch_outcome}
use Rattle.reduction.proofs.StretchLaws.{counted}
use Rattle.reduction.proofs.stretch.check.Goals as goal

pub returns-in_err-check_task : goal.returns-in_err-check_task
unfolding stretch_outcome
returns-in_err-check_task c =
    let e = c.in_err-check_task.field-0.0 in
    stops_up _ e _ _ c.from_residual.ensures.1 (ap outcome_of (sym c.in_err-check_task.was) ∙ c.check_task.ensures)

pub returns-in-Err : goal.returns-in-Err
unfolding stretch_outcome
returns-in-Err c =
    let first = ap outcome_of (sym c.in_ok-check_task.was) ∙ c.check_task.ensures in
    let second = ap outcome_of (sym c.in-Err.is) ∙ c.check_task-2.ensures in
    goes_done _ _ _ first (stops_refused _ _ c.of_second.result (c.of_second.ensures ∙ ap in_second second))

pub returns-then-actions-action : goal.returns-then-actions-action
unfolding stretch_outcome in_second is_done
returns-then-actions-action c =
    let first = ap outcome_of (sym c.in_ok-check_task.was) ∙ c.check_task.ensures in
    let second = ap outcome_of (sym c.in_default.is) ∙ c.check_task-2.ensures in
    goes_done _ _ _ first
    (goes_done _ _ _ (ap in_second second)
    (stops_lt _ _ 5 0 _ _ _ _ refl (counted _ _ _ c.actions_in-actions.ensures.is c.side_of.ensures) c.if-actions-action.true c.at.ensures))

pub returns : goal.returns
unfolding stretch_outcome in_second is_done
returns c =
    let first = ap outcome_of (sym c.in_ok-check_task.was) ∙ c.check_task.ensures in
    let second = ap outcome_of (sym c.in_default.is) ∙ c.check_task-2.ensures in
    goes_done _ _ _ first
    (goes_done _ _ _ (ap in_second second)
    (goes_lt _ _ 5 0 _ _ _ _ refl (counted _ _ _ c.actions_in-actions.ensures.is c.side_of.ensures) c.if-actions-action.false refl))
