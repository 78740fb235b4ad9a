-- The page shows the plan, line by line, and every line has its exact form.
use Prim.Native.Nat.{ℕ, zero, suc, ◌+◌, ◌*◌, ◌^◌, ◌≤◌, ◌<◌}
use mathlib.Core.Path.{◌≡◌, sym, ap, subst, ◌∙◌}
use mathlib.Core.Bool.{true}
use mathlib.Core.List.{List, [], ◌∷◌}
use native.Mathlib.Numerals.{add-one}
use native.Mathlib.Omega.{arith}
use lib.Dec.{leb, ltb}
use lib.ListN.{length, take, length-append, length-take}
use lib.Seq.{take_all, take-length, drop_at}
use borrow.Author.Tests.{leb-true, ltb-true}
use Rattle.files.specs.Accepted.{valid_signer, accepted_task, accepted_plan}
use Rattle.files.specs.Below.{all_of}
use Rattle.files.specs.Task.{Task, action_count, action_of}
use Rattle.files.proofs.Logic.{and_split, split_le}
use Rattle.files.proofs.Valid.{all_at, task_valid}
use Rattle.plans.specs.Plan.{total_of, add_step, no_steps, step_of}
use Rattle.sheets.specs.Sheet.{step_line, step_lines, signed_line, sheet_of}
use Rattle.sheets.specs.Clauses.{NumbersFit}
use Rattle.sheets.specs.Right.{line_of, IsLine, minutes_up_to, SheetRight, SheetsRight}
use Rattle.sheets.proofs.LineLaws.{step_is_line, signed_is_line}
use Rattle.sheets.proofs.StepLaws.{Shown, lines_length, line_at, up_to}

-- the minutes of an action
abbrev cost_in : Task → ℕ → ℕ
cost_in t a = (action_of t a).cost

-- the running total is the total of the steps so far
up_to_total : (t : Task) (total : ℕ) (plan : List ℕ) (k : ℕ) → k < length plan → up_to (cost_in t) total plan k ≡ total + (total_of t (take (suc k) plan)).minutes
unfolding up_to total_of add_step no_steps
up_to_total t total [] k h = absurd (omega arith)
up_to_total t total (a ∷ plan) zero h = omega arith
up_to_total t total (a ∷ plan) (suc k) h = up_to_total t (total + cost_in t a) plan k (omega arith) ∙ omega arith

-- the steps so far cost no more than the limit for each
total_most : (t : Task) → accepted_task t ≡ true → (plan : List ℕ) → (total_of t plan).minutes ≤ 1000000 * length plan
unfolding total_of add_step no_steps
total_most t ok [] = omega arith
total_most t ok (a ∷ plan) = omega (arith, total_most t ok plan, ((task_valid t ok).action a).cost)

pub accepted_shown : (t : Task) (plan : List ℕ) → accepted_task t ≡ true → accepted_plan (action_count t) plan ≡ true → Shown (cost_in t) 0 0 plan
unfolding accepted_plan
accepted_shown t plan ok held =
    let parts = and_split (leb (length plan) 4096) (all_of (λ n. ltb n (action_count t)) plan) held in
    let valid = task_valid t ok in
    record {
      few = omega (arith, leb-true (length plan) 4096 parts.0);
      known = λ i h. omega (arith, ltb-true (step_of plan i) (action_count t) (all_at (λ n. ltb n (action_count t)) plan 0 i parts.1 h), valid.actions_few);
      cheap = λ i h. (valid.action (step_of plan i)).cost;
      sum = omega arith;
    }

module _ (t : Task) (plan : List ℕ) (signer : ℕ) (shown : Shown (cost_in t) 0 0 plan) (below : signer < 2 ^ 32) where
  abbrev lines : List ℕ
  lines = step_lines (cost_in t) 0 0 plan

  abbrev sheet : List ℕ
  sheet = sheet_of t plan signer

  total_at : (k : ℕ) → k < length plan → up_to (cost_in t) 0 plan k ≡ minutes_up_to t plan (k + 1)
  total_at k h =
      let e : 0 + (total_of t (take (suc k) plan)).minutes ≡ (total_of t (take (suc k) plan)).minutes = omega arith in
      up_to_total t 0 plan k h ∙ e ∙ ap (λ (n : ℕ). (total_of t (take n plan)).minutes) (sym (add-one k))

  step_line_lem : (k : ℕ) → k < length plan
      → line_of sheet k ≡ step_line (k + 1) (step_of plan k) (cost_in t (step_of plan k)) (minutes_up_to t plan (k + 1))
  unfolding sheet_of
  step_line_lem k h =
      let n : 0 + (k + 1) ≡ k + 1 = omega arith in
      line_at (cost_in t) 0 0 plan (signed_line signer) k shown h
      ∙ ap (λ (m : ℕ). step_line m (step_of plan k) (cost_in t (step_of plan k)) (up_to (cost_in t) 0 plan k)) n
      ∙ ap (step_line (k + 1) (step_of plan k) (cost_in t (step_of plan k))) (total_at k h)

  signed_line_lem : line_of sheet (length plan) ≡ signed_line signer
  unfolding sheet_of
  signed_line_lem =
      ap (take 33) (drop_at lines (signed_line signer) (33 * length plan) (lines_length (cost_in t) 0 0 plan shown))
      ∙ take_all 33 (signed_line signer) (omega (arith, (signed_is_line signer below).long))

  pub sheet_length : length sheet ≡ 33 * (length plan + 1)
  unfolding sheet_of
  sheet_length = omega (arith, length-append lines (signed_line signer), lines_length (cost_in t) 0 0 plan shown, (signed_is_line signer below).long)

module _ (t : Task) (plan : List ℕ) (signer : ℕ) (ok : accepted_task t ≡ true) (held : accepted_plan (action_count t) plan ≡ true) (below : signer < 2 ^ 32) where
  abbrev shown : Shown (cost_in t) 0 0 plan
  shown = accepted_shown t plan ok held

  shown_fits : (k : ℕ) → k < length plan → NumbersFit (k + 1) (step_of plan k) (cost_in t (step_of plan k)) (minutes_up_to t plan (k + 1))
  shown_fits k h =
      let most = total_most t ok (take (k + 1) plan) in
      let few : length (take (k + 1) plan) ≤ k + 1 = omega (arith, length-take (k + 1) plan) in
      let cheap = shown.cheap k h in
      record {
        step_fits = omega (arith, h, shown.few);
        action_fits = omega (arith, shown.known k h);
        minutes_fit = omega (arith, cheap);
        total_fits = omega (arith, most, few, h, shown.few);
      }

  is_line_lem : (k : ℕ) → k ≤ length plan → IsLine (line_of (sheet_of t plan signer) k)
  is_line_lem k h =
      split_le (length plan) k
      (λ l.
      let e : length plan ≡ k = omega arith in
      subst (λ (j : ℕ). IsLine (line_of (sheet_of t plan signer) j)) e (subst IsLine (sym (signed_line_lem t plan signer shown below)) (signed_is_line signer below)))
      (λ l. subst IsLine (sym (step_line_lem t plan signer shown below k l)) (step_is_line (k + 1) (step_of plan k) (cost_in t (step_of plan k)) (minutes_up_to t plan (k + 1)) (shown_fits k l)))

  pub sheet_right : SheetRight t plan signer
  sheet_right =
      record {
        long = sheet_length t plan signer shown below;
        steps = step_line_lem t plan signer shown below;
        total = ap (λ (l : List ℕ). (total_of t l).minutes) (take-length plan);
        signed = signed_line_lem t plan signer shown below;
        lines = is_line_lem;
      }

pub sheets_right : SheetsRight
unfolding valid_signer
sheets_right t plan signer ok held valid = sheet_right t plan signer ok held (ltb-true signer (2 ^ 32) (and_split (leb 1 signer) (ltb signer (2 ^ 32)) valid).1)
