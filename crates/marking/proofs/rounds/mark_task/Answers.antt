-- Refused where a buffer is too short; else the marks of the last round are written.
use Prim.Native.Nat.{ℕ, ◌≤◌}
use mathlib.Core.Path.{◌≡◌, refl, sym, ◌∙◌}
use native.Mathlib.Omega.{arith}
use Rattle.files.specs.Dense.{held}
use Rattle.files.specs.Task.{fact_count}
use Rattle.files.proofs.Valid.{Valid, task_valid}
use Rattle.marking.specs.Mark.{marks_fit, mark_buffers}
use Rattle.files.proofs.HeldTask.{variables_held, actions_held, size_held}
use Rattle.marking.proofs.MarkLaws.{facts_held, action_bytes_lem, fact_bytes_lem, actions_written, facts_written}
use Rattle.files.proofs.Guards.{refused_number}
use Rattle.files.specs.Outcome.{done}
use Rattle.files.proofs.Stages.{first_short, second_short, both_fit}
use Rattle.marking.proofs.MarkRow.{marks_refused, marks_written}
use Rattle.marking.proofs.rounds.mark_task.Goals as goal

pub sum-facts-requires : goal.sum-facts-requires
sum-facts-requires c =
    let task = c.args.task.now in
    let valid : Valid (held task) = task_valid (held task) c.requires in
    let variables_few : task.variables ≤ 64 = omega (arith, valid.variables_few, variables_held task) in
    record { within = omega (arith, variables_few); few = omega (arith, variables_few) }

pub returns-then-kept-task : goal.returns-then-kept-task
unfolding marks_fit
returns-then-kept-task c =
    let task = c.args.task.now in
    let valid : Valid (held task) = task_valid (held task) c.requires in
    let facts_are : c.sum-facts.result ≡ fact_count (held task) = c.sum-facts.ensures.is ∙ facts_held task valid c.args.level in
    let d = task in
    marks_refused (held d) c.args.level _ _ (first_short _ _ _ _ _ _ (sym (actions_held d)) facts_are _ c.if-kept-task.true c.at.ensures) _ (refused_number c.at.result) refl

pub returns-then-relevant-facts : goal.returns-then-relevant-facts
unfolding marks_fit
returns-then-relevant-facts c =
    let task = c.args.task.now in
    let valid : Valid (held task) = task_valid (held task) c.requires in
    let facts_are : c.sum-facts.result ≡ fact_count (held task) = c.sum-facts.ensures.is ∙ facts_held task valid c.args.level in
    let d = task in
    marks_refused (held d) c.args.level _ _ (second_short _ _ _ _ _ _ (sym (actions_held d)) facts_are _ c.if-kept-task.false c.if-relevant-facts.true c.at-then-relevant-facts.ensures) _ (refused_number c.at-then-relevant-facts.result) refl

pub write_actions-requires : goal.write_actions-requires
write_actions-requires c =
    let task = c.args.task.now in
    let valid : Valid (held task) = task_valid (held task) c.requires in
    let actions_few : task.actions ≤ 512 = omega (arith, valid.actions_few, actions_held task) in
    record { source = actions_few; room = omega arith }

at_most : {x y z : ℕ} → x ≡ y → x ≤ z → y ≤ z
at_most e h = omega arith

pub write_facts-requires : goal.write_facts-requires
write_facts-requires c =
    let task = c.args.task.now in
    let valid : Valid (held task) = task_valid (held task) c.requires in
    let variables_few : task.variables ≤ 64 = omega (arith, valid.variables_few, variables_held task) in
    record {
      source = record { few_variables = variables_few; few_values = λ v l. omega (arith, size_held task v l, valid.size_most v) };
      room = at_most c.sum-facts.ensures.is c.if-relevant-facts.false;
    }

pub returns : goal.returns
unfolding marks_fit
returns c =
    let task = c.args.task.now in
    let valid : Valid (held task) = task_valid (held task) c.requires in
    let facts_are : c.sum-facts.result ≡ fact_count (held task) = c.sum-facts.ensures.is ∙ facts_held task valid c.args.level in
    let d = task in
    let level = c.args.level in
    let actions = sym (actions_held d) in
    let facts = facts_are in
    let rounds = c.run-marks.ensures.count in
    let kept-now = actions_written d valid level _ _ (omega (arith, actions_held d, c.if-kept-task.false)) _ (action_bytes_lem d valid level _ _ _ _ c.run-marks.ensures) c.write_actions.ensures in
    let facts_now = facts_written d valid level _ _ (omega (arith, facts_are, c.if-relevant-facts.false)) _ (fact_bytes_lem d valid level _ _ _ _ c.run-marks.ensures) c.write_facts.ensures in
    marks_written (held d) level _ _ (both_fit _ _ _ _ _ _ (sym (actions_held d)) facts_are _ c.if-kept-task.false c.if-relevant-facts.false refl) _ refl _
    (λ i. record { outcome = done; action_marks = actions i; fact_marks = facts i; rounds = rounds i })
    (λ i. mark_buffers (kept-now i) (facts_now i))
