-- Marking, then reduction: a stage that is refused ends the row.
use mathlib.Core.Path.{refl, sym}
use Rattle.files.specs.Dense.{held}
use Rattle.reduction.proofs.Levels.{other_turns}
use Rattle.reduction.proofs.ReduceStages.{reduced_err, kept_marks, marks_within, marks_at, reduced_writes, marks_refused, files_refused, files_written}
use Rattle.reduction.proofs.stages.reduce_once.Goals as goal

pub mark_task-requires : goal.mark_task-requires
mark_task-requires c = c.requires.accepted

pub returns-in_err-marked : goal.returns-in_err-marked
returns-in_err-marked c =
    let e = c.in_err-marked.field-0.0 in
    marks_refused (held c.args.task.now) _ _ _ _ _ _ (marks_at _ _ c.requires.other c.in_err-marked.ensures) e refl _ (reduced_err _ e c.from_residual.ensures.1)

pub kept_actions-kept-requires : goal.kept_actions-kept-requires
kept_actions-kept-requires c = marks_within c.args.task.now c.requires.accepted _ _ _ _ c.in_ok-marked.ensures refl

pub write_reduced-requires : goal.write_reduced-requires
write_reduced-requires c = c.requires.accepted

pub returns-in_err-lengths : goal.returns-in_err-lengths
returns-in_err-lengths c =
    let e = c.in_err-lengths.field-0.0 in
    let bits = kept_marks c.args.task.now c.requires.accepted _ _ _ _ c.in_ok-marked.ensures refl _ c.kept_actions-kept.ensures in
    files_refused (held c.args.task.now) _ _ _ _ _ _ (marks_at _ _ c.requires.other c.in_ok-marked.ensures) refl _ _ _
    (reduced_writes _ _ c.requires.other (c.write_reduced.ensures _ bits)) e c.in_err-lengths.was _ (reduced_err _ e c.from_residual-in_err-lengths.ensures.1)

pub returns : goal.returns
returns c =
    let bits = kept_marks c.args.task.now c.requires.accepted _ _ _ _ c.in_ok-marked.ensures refl _ c.kept_actions-kept.ensures in
    files_written (held c.args.task.now) _ _ _ _ _ _ (marks_at _ _ c.requires.other c.in_ok-marked.ensures) refl _ _ _
    (reduced_writes _ _ c.requires.other (c.write_reduced.ensures _ bits)) _ c.in_ok-lengths.was 0 (sym (other_turns _ _ c.requires.other))
