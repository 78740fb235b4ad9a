-- Refused where a buffer is too short; else both files are written.
use mathlib.Core.Path.{refl, sym, ◌∙◌}
use native.Mathlib.Omega.{arith}
use Rattle.files.proofs.Guards.{after_done, after_refused, refused_number}
use Rattle.files.proofs.Lengths.{task_file_length, origin_file_length}
use Rattle.files.proofs.Stages.{first_short, second_short, both_fit}
use Rattle.reduction.specs.Reduce.{files_fit}
use Rattle.reduction.proofs.arrays.write.Goals as goal

pub file_length-first-requires : goal.file_length-first-requires
file_length-first-requires c =
    let w = c.requires in
    record {
      few_variables = omega (arith, w.variables, w.writable.limits.few_variables);
      few_actions = omega (arith, w.actions, w.writable.limits.few_actions);
    }

pub returns-then-reduced-first : goal.returns-then-reduced-first
unfolding files_fit
returns-then-reduced-first c =
    let first = c.file_length-first.ensures.is ∙ sym (task_file_length c.args.task.now c.args.signer) in
    let second = c.file_length-second.ensures.is ∙ sym (origin_file_length c.args.origins.now c.args.signer) in
    record {
      outcome = first_short _ _ _ _ _ _ first second _ c.if-reduced-first.true c.at.ensures;
      lengths = tt;
      reduced = sym (after_refused _ _ _ (refused_number c.at.result));
      origin = sym (after_refused _ _ _ (refused_number c.at.result));
    }

pub returns-then-origin-second : goal.returns-then-origin-second
unfolding files_fit
returns-then-origin-second c =
    let first = c.file_length-first.ensures.is ∙ sym (task_file_length c.args.task.now c.args.signer) in
    let second = c.file_length-second.ensures.is ∙ sym (origin_file_length c.args.origins.now c.args.signer) in
    let at = c.at-then-origin-second in
    record {
      outcome = second_short _ _ _ _ _ _ first second _ c.if-reduced-first.false c.if-origin-second.true at.ensures;
      lengths = tt;
      reduced = sym (after_refused _ _ _ (refused_number at.result));
      origin = sym (after_refused _ _ _ (refused_number at.result));
    }

pub returns : goal.returns
unfolding files_fit
returns c =
    let first = c.file_length-first.ensures.is ∙ sym (task_file_length c.args.task.now c.args.signer) in
    let second = c.file_length-second.ensures.is ∙ sym (origin_file_length c.args.origins.now c.args.signer) in
    record {
      outcome = both_fit _ _ _ _ _ _ first second _ c.if-reduced-first.false c.if-origin-second.false refl;
      lengths = λ i. record { reduced = first i; origin = second i };
      reduced = c.write.ensures ∙ sym (after_done _ _ _ refl);
      origin = c.write-2.ensures ∙ sym (after_done _ _ _ refl);
    }
