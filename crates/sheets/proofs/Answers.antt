-- The sheet's call answers by its stages, with an outcome of its list.
use Prim.Native.Nat.{ℕ}
use mathlib.Core.Path.{◌≡◌, refl, ap, ◌∙◌}
use mathlib.Core.Bool.{true}
use mathlib.Core.List.{List, [], ◌∷◌}
use Rattle.files.specs.Outcome.{Outcome, is_done, fits}
use Rattle.files.specs.Listed.{listed, short}
use Rattle.files.specs.PlanFile.{plan_of}
use Rattle.files.specs.Stages.{outcome_of}
use Rattle.files.proofs.Listed.{listed_done, listed_front, listed_behind, listed_guard, listed_both, listed_at}
use Rattle.files.proofs.Logic.{split}
use Rattle.plans.specs.Check.{Checked, with_total, check_plan}
use Rattle.plans.specs.Checker.{check_refusals, check_stages}
use Rattle.plans.proofs.PlanChecker.{check_answers}
use Rattle.sheets.specs.Sheet.{page_length, sheet_outcome}
use Rattle.sheets.specs.Answers.{sheet_refusals, SheetAnswers}

module _ (task plan : List ℕ) where
  abbrev row : Outcome
  row = outcome_of (check_stages task plan)

  pub checker_listed : listed (check_refusals task plan) (check_plan task plan).outcome ≡ true
  unfolding with_total
  checker_listed =
      let answers = check_answers task plan in
      ap (λ (c : Checked). listed (check_refusals task plan) c.outcome) answers.numbers
      ∙ split (is_done row) (λ y. rw y (listed_done (check_refusals task plan))) (λ n. rw n answers.outcome)

  module _ (page : List ℕ) where
    sheet_listed : listed (sheet_refusals task plan) (sheet_outcome task plan page) ≡ true
    unfolding fits
    sheet_listed =
        let all = sheet_refusals task plan in
        let own = short (page_length (plan_of plan)) ∷ [] in
        listed_both all _ _ (listed_front (check_refusals task plan) own _ checker_listed)
        (λ _. listed_both all _ _
        (listed_behind (check_refusals task plan) own _ (listed_guard own _ 21 _ _ (listed_at 21 (page_length (plan_of plan)) [] refl) (λ _. listed_done own)))
        (λ _. listed_done all))

    pub sheet_answers : SheetAnswers task plan page
    sheet_answers = record { outcome = sheet_listed; numbers = refl; buffers = refl }
