-- Where the call is done, the page shows the plan of the plan file, under its signer.
use Prim.Native.Nat.{ℕ, ◌≤◌}
use mathlib.Core.Path.{◌≡◌, refl, ap, ◌∙◌}
use mathlib.Core.Bool.{true}
use mathlib.Core.List.{List}
use native.Mathlib.Omega.{arith}
use lib.ListN.{length, take}
use lib.Seq.{take_at}
use Rattle.files.specs.Outcome.{Outcome, done, fits, overwrite}
use Rattle.files.specs.Accepted.{accepted_task}
use Rattle.files.specs.Bytes.{Octets}
use Rattle.files.specs.PlanFile.{check_plan_file, plan_of}
use Rattle.files.specs.Records.{signer_of}
use Rattle.files.specs.Task.{action_count}
use Rattle.files.specs.TaskFile.{check_task, task_of}
use Rattle.files.proofs.Guards.{both_done, is_done_lem}
use Rattle.files.proofs.KindsRight.{tasks_right, plans_right}
use Rattle.files.proofs.Listed.{listed_itself}
use Rattle.files.proofs.Valid.{task_valid}
use Rattle.plans.specs.Check.{check_plan}
use Rattle.plans.specs.Checker.{check_refusals}
use Rattle.plans.proofs.PlanChecker.{checker_right}
use Rattle.sheets.specs.Right.{SheetRight, PageRight, PagesRight}
use Rattle.sheets.specs.Sheet.{Laid, sheet_of, page_length, sheet_whole, sheet_outcome, sheet_answer, sheet_page}
use Rattle.sheets.proofs.Answers.{checker_listed}
use Rattle.sheets.proofs.Right.{sheets_right}

module _ (task plan page : List ℕ) (e : sheet_outcome task plan page ≡ done) where
  -- both stages are done
  first : (check_plan task plan).outcome.number ≡ 0
  first = (both_done (check_plan task plan).outcome _ (ap (λ (o : Outcome). o.number) e)).0

  second : (fits (page_length (plan_of plan)) (length page) done).number ≡ 0
  second = (both_done _ done (both_done (check_plan task plan).outcome _ (ap (λ (o : Outcome). o.number) e)).1).0

  accepted : (check_plan task plan).outcome ≡ done
  accepted = listed_itself (check_refusals task plan) (check_plan task plan).outcome (checker_listed task plan) (is_done_lem (check_plan task plan).outcome first)

  -- so the answer is the whole, and the page is overwritten
  whole : sheet_answer task plan page ≡ sheet_whole task plan
  whole = rw (is_done_lem (sheet_outcome task plan page) (ap (λ (o : Outcome). o.number) e)) refl

  overwritten : sheet_page task plan page ≡ overwrite page (sheet_of (task_of task) (plan_of plan) (signer_of plan))
  overwritten = rw (is_done_lem (check_plan task plan).outcome first, is_done_lem (fits (page_length (plan_of plan)) (length page) done) second) refl

  module _ (octets : Octets task) (bytes : Octets plan) where
    checked : check_task task ≡ done
    checked = ((checker_right task plan).yes.0 accepted).0

    listed : check_plan_file (action_count (task_of task)) plan ≡ done
    listed = ((checker_right task plan).yes.0 accepted).1

    ok : accepted_task (task_of task) ≡ true
    ok = tasks_right.held task octets checked

    few : action_count (task_of task) ≤ 65536
    few = omega (arith, (task_valid (task_of task) ok).actions_few)

    right : SheetRight (task_of task) (plan_of plan) (signer_of plan)
    right =
        sheets_right (task_of task) (plan_of plan) (signer_of plan) ok
        ((plans_right (action_count (task_of task)) few).held plan bytes listed)
        ((plans_right (action_count (task_of task)) few).signed plan bytes listed)

    front : take (page_length (plan_of plan)) (overwrite page (sheet_of (task_of task) (plan_of plan) (signer_of plan))) ≡ sheet_of (task_of task) (plan_of plan) (signer_of plan)
    unfolding overwrite page_length
    front = take_at (sheet_of (task_of task) (plan_of plan) (signer_of plan)) _ _ right.long

    page_right : PageRight task plan page
    page_right =
        record {
          right = right;
          front =
              ap (λ (l : Laid). take l.page (sheet_page task plan page)) whole
              ∙ ap (take (page_length (plan_of plan))) overwritten
              ∙ front;
          cost = ap (λ (l : Laid). l.cost.0) whole ∙ (checker_right task plan).cost accepted;
          steps = ap (λ (l : Laid). l.steps.0) whole ∙ (checker_right task plan).steps accepted;
        }

pub pages_right : PagesRight
pages_right task plan page octets bytes e = page_right task plan page e octets bytes
