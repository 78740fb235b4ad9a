-- Marking, turns, then both files: a stage that is refused ends the row.
use mathlib.Core.Path.{refl, sym, ◌∙◌}
use Rattle.files.specs.Dense.{held}
use Rattle.reduction.proofs.Levels.{five_turns}
use Rattle.reduction.proofs.ReduceStages.{reduced_err, kept_marks, marks_within, marks_in_turns, turned_writes, marks_refused, files_refused, files_written}
use Rattle.reduction.proofs.stages.reduce_in_turns.Goals as goal

pub returns-in_err-marked : goal.returns-in_err-marked
returns-in_err-marked c =
    let e = c.in_err-marked.field-0.0 in
    marks_refused (held c.args.task.now) 5 _ _ _ _ _ (marks_in_turns _ _ refl c.in_err-marked.ensures) e refl _ (reduced_err _ e c.from_residual.ensures.1)

pub kept_actions-kept-requires : goal.kept_actions-kept-requires
kept_actions-kept-requires c = marks_within c.args.task.now c.requires _ _ _ _ c.in_ok-marked.ensures refl

pub run-turns-requires : goal.run-turns-requires
run-turns-requires c =
    record { accepted = c.requires; marks = kept_marks c.args.task.now c.requires _ _ _ _ c.in_ok-marked.ensures refl _ c.kept_actions-kept.ensures }

pub write-requires : goal.write-requires
write-requires c = c.run-turns.ensures.within

pub returns-in_err-lengths : goal.returns-in_err-lengths
returns-in_err-lengths c =
    let e = c.in_err-lengths.field-0.0 in
    files_refused (held c.args.task.now) 5 _ _ _ _ _ (marks_in_turns _ _ refl c.in_ok-marked.ensures) refl _ _ _
    (turned_writes _ c.run-turns.ensures c.write.ensures) e c.in_err-lengths.was _ (reduced_err _ e c.from_residual-in_err-lengths.ensures.1)

pub returns : goal.returns
returns c =
    files_written (held c.args.task.now) 5 _ _ _ _ _ (marks_in_turns _ _ refl c.in_ok-marked.ensures) refl _ _ _
    (turned_writes _ c.run-turns.ensures c.write.ensures) _ c.in_ok-lengths.was _ (c.run-turns.ensures.count ∙ sym (five_turns _ 5 refl))
