-- What the sheet's call promises: what it answers, and what the page buffer then holds.
use Rattle.std.specs.Prelude.{ℕ, List, [], ◌∷◌, ◌++◌}
use Rattle.files.specs.Listed.{Refusal, short}
use Rattle.files.specs.PlanFile.{plan_of}
use Rattle.files.specs.Stages.{Answers}
use Rattle.plans.specs.Checker.{check_refusals}
use Rattle.sheets.specs.Sheet.{page_length, sheet_stages, sheet_whole, no_sheet, sheet_answer, sheet_page}

-- the plan checker's, then 21 for the page
abbrev pub sheet_refusals : List ℕ → List ℕ → List Refusal
sheet_refusals task plan = check_refusals task plan ++ (short (page_length (plan_of plan)) ∷ [])

abbrev pub SheetAnswers : List ℕ → List ℕ → List ℕ → Type 0
SheetAnswers task plan page =
    Answers (sheet_refusals task plan) (sheet_stages task plan page) (sheet_whole task plan) no_sheet
    page (sheet_answer task plan page) (sheet_page task plan page)
