-- The file, the level and the room give the outcome in this order; the arrays hold the file's task.
use Rattle.std.proofs.Common.{◌≡◌, refl, sym, ap, ◌∙◌, rules}
use Rattle.files.specs.Outcome.{Outcome, outcome_of}
use Rattle.files.specs.Accepted.{accepted_task}
use Rattle.files.specs.Bytes.{Octets}
use Rattle.files.specs.TaskFile.{check_task}
use Rattle.files.proofs.TaskChecked.{task_accepted}
use Rattle.files.proofs.Guards.{refused_number}
use Rattle.marking.proofs.MarkRow.{input_refused, refused_file, refused_level, of_task, marked_err}
use Rattle.marking.proofs.mark.Goals as goal

pub returns-in_err-read : goal.returns-in_err-read
returns-in_err-read c =
    let e = c.in_err-read.field-0.0 in
    let read = ap outcome_of (sym c.in_err-read.was) ∙ c.read.ensures.outcome in
    input_refused _ _ _ _ (refused_file _ _ _ read (refused_number e)) (refused_number e) _ (marked_err _ e c.from_residual.ensures.1)

pub returns-in_err-level : goal.returns-in_err-level
returns-in_err-level c =
    let e = c.in_err-level.field-0.0 in
    let read = ap outcome_of (sym c.in_ok-read.was) ∙ c.read.ensures.outcome in
    let level = ap outcome_of (sym c.in_err-level.was) ∙ c.try_from.ensures.0 in
    input_refused _ _ _ _ (refused_level _ _ _ read refl _ level) (refused_number e) _ (marked_err _ e c.from_residual-in_err-level.ensures.1)

pub mark_task-requires : goal.mark_task-requires
mark_task-requires c =
    let file = c.args.task.now in
    let read = ap outcome_of (sym c.in_ok-read.was) ∙ c.read.ensures.outcome in
    let octets : Octets file = λ i. search rules in
    let done : (outcome_of c.read.result).number ≡ 0 = ap (λ r. (outcome_of r).number) c.in_ok-read.was in
    let checked : (check_task file).number ≡ 0 = ap (λ (o : Outcome). o.number) (sym read) in
    ap accepted_task (c.read.ensures.task done) ∙ task_accepted file octets checked

pub returns : goal.returns
returns c =
    let read = ap outcome_of (sym c.in_ok-read.was) ∙ c.read.ensures.outcome in
    let done : (outcome_of c.read.result).number ≡ 0 = ap (λ r. (outcome_of r).number) c.in_ok-read.was in
    of_task _ _ _ read refl c.in_ok-level.ensures.0 _ (c.number.ensures ∙ c.in_ok-level.ensures.1) _ _ (c.read.ensures.task done) _ _ c.mark_task.ensures
