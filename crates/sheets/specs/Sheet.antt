-- The sheet for the heading: a line a step with its minutes and the running total, and the plan file's signer below.
use Rattle.std.specs.Prelude.{ℕ, ◌+◌, ◌*◌, List, [], ◌∷◌, ◌++◌, length, Result, Ok, Err}
use Rattle.files.specs.Outcome.{Outcome, done, refused, fits, overwrite}
use Rattle.files.specs.declared.refusals.Refusal.{Refusal}
use Rattle.files.specs.declared.units.Minutes.{Minutes}
use Rattle.files.specs.declared.units.Steps.{Steps}
use Rattle.files.specs.PlanFile.{plan_of}
use Rattle.files.specs.Records.{signer_of}
use Rattle.files.specs.Stages.{Stage, stage, outcome_of, left_by, answer_by, ByStages}
use Rattle.files.specs.Task.{Task, action_of}
use Rattle.files.specs.TaskFile.{task_of}
use Rattle.plans.specs.Check.{check_plan}
use Rattle.digits.specs.Decimal.{ascii, column}
use Rattle.sheets.specs.declared.LaidPage.{LaidPage}

-- step number in 4 columns, two blanks, action number in 5, minutes in 9, running total in 12
unfoldable pub step_line : ℕ → ℕ → ℕ → ℕ → List ℕ
step_line step action minutes total = column 4 step ++ ascii "  " ++ column 5 action ++ column 9 minutes ++ column 12 total ++ ascii "\n"

-- a line a step behind `taken` steps and a total, by the minutes of an action
unfoldable pub step_lines : (ℕ → ℕ) → ℕ → ℕ → List ℕ → List ℕ
step_lines minutes taken total [] = []
step_lines minutes taken total (a ∷ plan) =
    step_line (taken + 1) a (minutes a) (total + minutes a)
    ++ step_lines minutes (taken + 1) (total + minutes a) plan

-- SIGNED at the left and the signer in the remaining 26 columns
unfoldable pub signed_line : ℕ → List ℕ
signed_line signer = ascii "SIGNED" ++ column 26 signer ++ ascii "\n"

-- the minutes of an action are its cost
unfoldable pub sheet_of : Task → List ℕ → ℕ → List ℕ
sheet_of t plan signer = step_lines (λ a. (action_of t a).cost) 0 0 plan ++ signed_line signer

-- 33 times (steps plus 1)
unfoldable pub page_length : List ℕ → ℕ
page_length plan = 33 * (length plan + 1)

-- first the plan checker, then the room for the page
abbrev pub sheet_stages : List ℕ → List ℕ → List ℕ → List (Stage (List ℕ))
sheet_stages task plan page =
    stage (check_plan task plan).outcome page
    ∷ stage (fits (page_length (plan_of plan)) (length page) done) (overwrite page (sheet_of (task_of task) (plan_of plan) (signer_of plan)))
    ∷ []

-- what the call answers: the bytes of the page, and the plan's cost and steps
pub record Laid : Type 0 where
  pub outcome : Outcome
  pub page : ℕ
  pub cost : Minutes
  pub steps : Steps

-- the page's length, with cost and steps as the plan checker gives them
abbrev pub sheet_whole : List ℕ → List ℕ → Laid
sheet_whole task plan = record { outcome = done; page = page_length (plan_of plan); cost = (check_plan task plan).cost; steps = (check_plan task plan).steps }

-- beside a refusal every number is 0
abbrev pub no_sheet : Outcome → Laid
no_sheet o = record { outcome = o; page = 0; cost = record { 0 = 0 }; steps = record { 0 = 0 } }

-- the numbers of the call's answer
abbrev pub laid_of : Result LaidPage Refusal → Laid
laid_of (Ok laid) = record { outcome = done; page = laid.length; cost = laid.cost; steps = laid.steps }
laid_of (Err r) = no_sheet (refused r)

-- the call: what it answers, and what the page buffer holds now
abbrev pub LaysSheet : List ℕ → List ℕ → List ℕ → Laid → List ℕ → Type 0
LaysSheet task plan page answer now = ByStages (sheet_stages task plan page) (sheet_whole task plan) no_sheet page answer now

abbrev pub sheet_outcome : List ℕ → List ℕ → List ℕ → Outcome
sheet_outcome task plan page = outcome_of (sheet_stages task plan page)

abbrev pub sheet_answer : List ℕ → List ℕ → List ℕ → Laid
sheet_answer task plan page = answer_by (sheet_stages task plan page) (sheet_whole task plan) no_sheet

abbrev pub sheet_page : List ℕ → List ℕ → List ℕ → List ℕ
sheet_page task plan page = left_by (sheet_stages task plan page) page
