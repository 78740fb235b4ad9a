-- The call's answer by its stages: what the plan checker or a short page refuses, and a page that is written.
use Prim.Native.Nat.{ℕ, ◌+◌, ◌-◌, ◌*◌, ◌^◌, ◌≤◌, ◌<◌}
use mathlib.Core.Path.{◌≡◌, refl, sym, ap, ap₂, ◌∙◌}
use mathlib.Core.Bool.{true}
use mathlib.Core.List.{List, ◌++◌}
use native.Mathlib.Omega.{arith}
use lib.ListN.{length, get_or, length-append}
use Rattle.files.specs.Outcome.{Outcome, done, refusal, refused, is_done, fits, overwrite}
use Rattle.files.specs.Accepted.{accepted_task}
use Rattle.files.specs.Bytes.{Octets, placed}
use Rattle.files.specs.Clauses.{CostsOf}
use Rattle.files.specs.declared.refusals.Refusal.{Refusal}
use Rattle.std.specs.Prelude.{Result, Ok, Err}
use Rattle.std.specs.Result.{IsErrAnd}
use Rattle.std.proofs.lemmas.Result.{err_from_is_err_and}
use Rattle.files.specs.PlanFile.{check_plan_file, plan_of}
use Rattle.files.specs.Records.{signer_of}
use Rattle.files.specs.Stages.{answer_by, left_by}
use Rattle.files.specs.Task.{action_count, action_of}
use Rattle.files.specs.TaskFile.{check_task, task_of}
use Rattle.files.proofs.Guards.{stops_le, is_done_lem, refused_stands}
use Rattle.files.proofs.Placed.{placed_then, placed_overwrite}
use Rattle.files.proofs.Stages.{is_yes, by_end, by_stop, by_next, fits_in}
use Rattle.files.proofs.TaskChecked.{task_accepted}
use Rattle.files.proofs.Valid.{task_valid}
use Rattle.plans.specs.declared.PlanTotal.{PlanTotal}
use Rattle.plans.specs.Check.{Checked, with_total, checked_of, check_plan}
use Rattle.plans.specs.Plan.{step_of, no_steps}
use Rattle.plans.proofs.CheckLaws.{file_steps_few, file_steps_known}
use Rattle.plans.proofs.PlanChecker.{checker_right}
use Rattle.sheets.specs.declared.LaidPage.{LaidPage}
use Rattle.sheets.specs.Clauses.{StepsFit}
use Rattle.sheets.specs.Sheet.{step_lines, signed_line, sheet_of, page_length, sheet_stages, sheet_whole, no_sheet, laid_of, LaysSheet}
use Rattle.sheets.proofs.LineLaws.{signed_is_line}
use Rattle.sheets.proofs.StepLaws.{lines_length, lines_alike}

module _ (task plan : List ℕ) where
  -- what the plan checker refuses
  pub lays_early : (page : List ℕ) (r : Refusal) → checked_of (Err r) ≡ check_plan task plan → LaysSheet task plan page (laid_of (Err r)) page
  unfolding with_total
  lays_early page r e =
      let same : refused r ≡ (check_plan task plan).outcome = ap (λ (c : Checked). c.outcome) e in
      by_stop (ap is_done (sym same) ∙ refused_stands r) (ap no_sheet same) refl

  pub early_answer : (page : List ℕ) (r : Refusal) → with_total (refused r) no_steps ≡ check_plan task plan
      → no_sheet (refused r) ≡ answer_by (sheet_stages task plan page) (sheet_whole task plan) no_sheet
  early_answer page r e = (lays_early page r e).answer

  pub early_page : (page : List ℕ) (r : Refusal) → with_total (refused r) no_steps ≡ check_plan task plan → page ≡ left_by (sheet_stages task plan page) page
  early_page page r e = (lays_early page r e).buffers

  -- what the plan checker refuses, handed on by `?`
  pub lays_unchecked : (page : List ℕ) (o : Result LaidPage Refusal) (r : Refusal) → IsErrAnd o (λ x. x ≡ r) → checked_of (Err r) ≡ check_plan task plan
      → LaysSheet task plan page (laid_of o) page
  lays_unchecked page o r h e = let p = err_from_is_err_and o h in rw (p.1, p.2) (lays_early page r e)

  -- what it accepts
  module _ (total : PlanTotal) (is : checked_of (Ok total) ≡ check_plan task plan) where
    accepted : (check_plan task plan).outcome ≡ done
    accepted = sym (ap (λ (c : Checked). c.outcome) is)

    yes : is_done (check_plan task plan).outcome ≡ true
    yes = is_yes (check_plan task plan).outcome accepted

    pub task_checked : (check_task task).number ≡ 0
    task_checked = ap (λ (o : Outcome). o.number) ((checker_right task plan).yes.0 accepted).0

    plan_checked : (check_plan_file (action_count (task_of task)) plan).number ≡ 0
    plan_checked = ap (λ (o : Outcome). o.number) ((checker_right task plan).yes.0 accepted).1

    steps_are : total.steps.0 ≡ length (plan_of plan)
    steps_are = ap (λ (c : Checked). c.steps.0) is ∙ (checker_right task plan).steps accepted

    -- the length that the code works out
    module _ (page : List ℕ) (needed : ℕ) (long : needed ≡ 33 * (total.steps.0 + 1)) where
      needed_is : needed ≡ page_length (plan_of plan)
      unfolding page_length
      needed_is = omega (arith, long, steps_are)

      -- a short page
      pub lays_short : (r : Refusal) → length page < needed → refused r ≡ refusal 21 needed → LaysSheet task plan page (laid_of (Err r)) page
      unfolding fits
      lays_short r h e =
          let short : refused r ≡ fits (page_length (plan_of plan)) (length page) done = stops_le _ _ 21 _ done (refused r) needed (length page) needed_is refl h (e ∙ ap (refusal 21) needed_is) in
          by_next yes (by_stop (ap is_done (sym short) ∙ refused_stands r) (ap no_sheet short) refl)

      -- room for the page
      module _ (fit : needed ≤ length page) (octets : Octets task) where
        few : length (plan_of plan) ≤ 4096
        few = file_steps_few (action_count (task_of task)) plan plan_checked

        known : (i : ℕ) → i < length (plan_of plan) → step_of (plan_of plan) i < action_count (task_of task)
        known = file_steps_known (action_count (task_of task)) plan plan_checked

        ok : accepted_task (task_of task) ≡ true
        ok = task_accepted task octets task_checked

        module _ (costs : List ℕ) (read : CostsOf (task_of task) costs) where
          abbrev minutes : ℕ → ℕ
          minutes a = get_or costs a 0

          cheap : (i : ℕ) → i < length (plan_of plan) → minutes (step_of (plan_of plan) i) ≤ 1000000
          cheap i b = omega (arith, read (step_of (plan_of plan) i) (known i b), ((task_valid (task_of task) ok).action (step_of (plan_of plan) i)).cost)

          small : (i : ℕ) → i < length (plan_of plan) → step_of (plan_of plan) i < 512
          small i b = omega (arith, known i b, (task_valid (task_of task) ok).actions_few)

          pub steps_fit_lem : StepsFit page (plan_of plan) costs
          steps_fit_lem = record { few = few; known = small; cheap = cheap; room = omega (arith, fit, long, steps_are) }

          lines_are : step_lines minutes 0 0 (plan_of plan) ≡ step_lines (λ a. (action_of (task_of task) a).cost) 0 0 (plan_of plan)
          lines_are = lines_alike minutes (λ a. (action_of (task_of task) a).cost) 0 0 (plan_of plan) (λ i b. read (step_of (plan_of plan) i) (known i b))

          -- all lines and the last one written
          module _ (first second : List ℕ) (signer : ℕ) (signs : signer ≡ signer_of plan) (below : signer < 2 ^ 32) (written : first ≡ placed page 0 (step_lines minutes 0 0 (plan_of plan)))
              (last : second ≡ placed first (needed - 33) (signed_line signer)) where
            abbrev lines : List ℕ
            lines = step_lines minutes 0 0 (plan_of plan)

            lines_long : length lines ≡ 33 * length (plan_of plan)
            lines_long = lines_length minutes 0 0 (plan_of plan) (record { few = omega (arith, few); known = small; cheap = cheap; sum = omega arith })

            sheet_fits : length (lines ++ signed_line signer) ≤ length page
            sheet_fits = omega (arith, length-append lines (signed_line signer), lines_long, (signed_is_line signer below).long, fit, long, steps_are)

            page_is : second ≡ overwrite page (sheet_of (task_of task) (plan_of plan) (signer_of plan))
            unfolding sheet_of
            page_is =
                last
                ∙ placed_then page first 0 (needed - 33) lines (signed_line signer) written (omega (arith, lines_long, long, steps_are))
                ∙ placed_overwrite page (lines ++ signed_line signer) sheet_fits
                ∙ ap₂ (λ (l : List ℕ) (n : ℕ). overwrite page (l ++ signed_line n)) lines_are signs

            pub lays_page : (laid : LaidPage) → laid ≡ record { length = needed; cost = total.cost; steps = total.steps } → LaysSheet task plan page (laid_of (Ok laid)) second
            lays_page laid e =
                let room : fits (page_length (plan_of plan)) (length page) done ≡ done = fits_in (page_length (plan_of plan)) (length page) done (omega (arith, fit, needed_is)) in
                let whole : laid_of (Ok laid) ≡ sheet_whole task plan =
                ap (λ (x : LaidPage). laid_of (Ok x)) e ∙ (λ i. record { outcome = done; page = needed_is i; cost = (is i).cost; steps = (is i).steps }) in
                by_next yes (by_next (ap is_done room ∙ is_done_lem done refl) (by_end whole page_is))
