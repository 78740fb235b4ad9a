-- What is promised of the page: it shows the plan, line by line, and every line has its exact form.
use Rattle.std.specs.Prelude.{ℕ, ◌+◌, ◌*◌, ◌≤◌, ◌<◌, ◌≡◌, Bool, true, ◌&&◌, ◌||◌, List, eqb, leb, length, get_or, take, drop}
use Rattle.files.specs.Accepted.{valid_signer, accepted_task, accepted_plan}
use Rattle.files.specs.Below.{any_of}
use Rattle.files.specs.Bytes.{Octets}
use Rattle.files.specs.Outcome.{done}
use Rattle.files.specs.PlanFile.{plan_of}
use Rattle.files.specs.Records.{signer_of}
use Rattle.files.specs.Task.{Task, action_count, action_of}
use Rattle.files.specs.TaskFile.{task_of}
use Rattle.plans.specs.Plan.{total_of, step_of}
use Rattle.digits.specs.Decimal.{ascii}
use Rattle.sheets.specs.Sheet.{step_line, signed_line, sheet_of, sheet_outcome, sheet_answer, sheet_page}

-- line k: bytes 33k to 33k + 32
abbrev pub line_of : List ℕ → ℕ → List ℕ
line_of page k = take 33 (drop (33 * k) page)

-- a blank, a digit, or a letter of SIGNED
unfoldable pub is_character : ℕ → Bool
is_character c = eqb c 32 || ((leb 48 c && leb c 57) || any_of (eqb c) (ascii "SIGNED"))

-- 32 characters and a line feed
pub record IsLine (line : List ℕ) : Type 0 where
  pub long : length line ≡ 33
  pub characters : (i : ℕ) → i < 32 → is_character (get_or line i 0) ≡ true
  pub ends : get_or line 32 0 ≡ 10

-- the minutes of the first steps of a plan
abbrev pub minutes_up_to : Task → List ℕ → ℕ → ℕ
minutes_up_to t plan count = (total_of t (take count plan)).minutes

pub record SheetRight (t : Task) (plan : List ℕ) (signer : ℕ) : Type 0 where
  pub long : length (sheet_of t plan signer) ≡ 33 * (length plan + 1)
  -- step, action, its cost, and the minutes up to and with this line
  pub steps : (k : ℕ) → k < length plan
      → line_of (sheet_of t plan signer) k ≡ step_line (k + 1) (step_of plan k) (action_of t (step_of plan k)).cost (minutes_up_to t plan (k + 1))
  -- the last running total is the plan's cost
  pub total : minutes_up_to t plan (length plan) ≡ (total_of t plan).minutes
  pub signed : line_of (sheet_of t plan signer) (length plan) ≡ signed_line signer
  pub lines : (k : ℕ) → k ≤ length plan → IsLine (line_of (sheet_of t plan signer) k)

-- for every accepted task, every list that its plan file can hold and every signer of a file
abbrev pub SheetsRight : Type 0
SheetsRight =
    (t : Task) (plan : List ℕ) (signer : ℕ) → accepted_task t ≡ true → accepted_plan (action_count t) plan ≡ true → valid_signer signer ≡ true
    → SheetRight t plan signer

-- of the files handed in: where the call is done, the page's front is the sheet of the plan file's plan, under its signer
pub record PageRight (task plan page : List ℕ) : Type 0 where
  pub right : SheetRight (task_of task) (plan_of plan) (signer_of plan)
  pub front : take (sheet_answer task plan page).page (sheet_page task plan page) ≡ sheet_of (task_of task) (plan_of plan) (signer_of plan)
  -- and cost and steps are the plan's
  pub cost : (sheet_answer task plan page).cost.0 ≡ (total_of (task_of task) (plan_of plan)).minutes
  pub steps : (sheet_answer task plan page).steps.0 ≡ length (plan_of plan)

abbrev pub PagesRight : Type 0
PagesRight = (task plan page : List ℕ) → Octets task → Octets plan → sheet_outcome task plan page ≡ done → PageRight task plan page
