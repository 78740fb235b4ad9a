-- The sheets of task E: what the definitions find, and what the document says.
use Rattle.std.specs.Prelude.{ℕ, List, [], ◌∷◌, ◌++◌, replicate}
use Rattle.files.specs.Examples.{file_e, file_lamp_alone, used, outcome_parts, Case, case}
use Rattle.files.specs.PlanFile.{plan_file}
use Rattle.digits.specs.Decimal.{ascii}
use Rattle.sheets.specs.Sheet.{Laid, sheet_answer, sheet_page}

-- outcome, page bytes, cost and steps
abbrev pub sheet_numbers : Laid → List ℕ
sheet_numbers l = outcome_parts l.outcome ++ (l.page ∷ l.cost.0 ∷ l.steps.0 ∷ [])

-- plan 2, 0 under signer 7
abbrev pub plan_e : List ℕ
plan_e = plan_file (2 ∷ 0 ∷ []) 7

-- the two lines of its steps, and the signed line
abbrev pub sheet_e : List ℕ
sheet_e =
    0x20 ∷ 0x20 ∷ 0x20 ∷ 0x31 ∷ 0x20 ∷ 0x20 ∷ 0x20 ∷ 0x20 ∷ 0x20 ∷ 0x20 ∷ 0x32
    ∷ (replicate 8 0x20 ++ (0x31 ∷ []) ++ replicate 11 0x20 ++ (0x31 ∷ 0x0A ∷ []))
    ++ ascii "   2      0        2           3\n"
    ++ ascii "SIGNED                         7\n"

unfoldable pub cases : List Case
cases =
    -- plan 2, 0: 99 bytes, cost 3, steps 2; the last two of 101 bytes are untouched
    case (sheet_numbers (sheet_answer file_e plan_e (used 101))) (0 ∷ 0 ∷ 0 ∷ 99 ∷ 3 ∷ 2 ∷ [])
    ∷ case (sheet_page file_e plan_e (used 101)) (sheet_e ++ used 2)
    -- a page of 98 bytes: 21 at 99, and the page untouched
    ∷ case (sheet_numbers (sheet_answer file_e plan_e (used 98))) (21 ∷ 0 ∷ 99 ∷ 0 ∷ 0 ∷ 0 ∷ [])
    ∷ case (sheet_page file_e plan_e (used 98)) (used 98)
    -- plan 0, no page: 22 at 0 stands before 21
    ∷ case (sheet_numbers (sheet_answer file_e (plan_file (0 ∷ []) 7) [])) (22 ∷ 0 ∷ 0 ∷ 0 ∷ 0 ∷ 0 ∷ [])
    -- goal lamp=1 alone, the empty plan: the signed line alone
    ∷ case (sheet_numbers (sheet_answer file_lamp_alone (plan_file [] 7) (used 33))) (0 ∷ 0 ∷ 0 ∷ 33 ∷ 0 ∷ 0 ∷ [])
    ∷ case (sheet_page file_lamp_alone (plan_file [] 7) (used 33)) (ascii "SIGNED" ++ replicate 25 32 ++ ascii "7\n")
    ∷ []
