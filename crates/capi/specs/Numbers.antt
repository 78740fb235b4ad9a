-- Each kind of answer as the eighteen numbers that a C caller gets, at the places that include/shortest.h gives them.
use Rattle.std.specs.Prelude.{ℕ, List, [], ◌∷◌, replicate, set}
use Rattle.files.specs.Outcome.{Outcome}
use Rattle.plans.specs.Check.{Checked}
use Rattle.marking.specs.Mark.{Marked}
use Rattle.reduction.specs.Reduce.{Reduced}
use Rattle.search.specs.Planner.{Planned}
use Rattle.sheets.specs.Sheet.{Laid}
use Rattle.translator.specs.Translate.{Translated}
use Rattle.capi.specs.declared.numbers.Numbers.{Numbers}

-- a number put at its place
unfoldable pub at : ℕ → ℕ → List ℕ → List ℕ
at place n numbers = set numbers place n

-- number, file and place; every other number is 0
unfoldable pub outcome_numbers : Outcome → List ℕ
outcome_numbers o = at 0 o.number (at 1 o.file (at 2 o.place (replicate 18 0)))

unfoldable pub checked_numbers : Checked → List ℕ
checked_numbers c = at 4 c.cost.0 (at 5 c.steps.0 (outcome_numbers c.outcome))

unfoldable pub marked_numbers : Marked → List ℕ
marked_numbers m = at 3 m.rounds (at 6 m.action_marks (at 7 m.fact_marks (outcome_numbers m.outcome)))

unfoldable pub reduced_numbers : Reduced → List ℕ
reduced_numbers r =
    at 3 r.rounds
    (at 6 r.action_marks (at 7 r.fact_marks (at 8 r.reduced (at 9 r.origin (at 14 r.turns (outcome_numbers r.outcome))))))

unfoldable pub planned_numbers : Planned → List ℕ
planned_numbers p =
    at 3 p.rounds
    (at 4 p.cost.0
    (at 5 p.steps.0
    (at 6 p.action_marks
    (at 7 p.fact_marks
    (at 8 p.reduced
    (at 9 p.origin (at 10 p.table (at 11 p.plan (at 14 p.turns (outcome_numbers p.outcome))))))))))

unfoldable pub laid_numbers : Laid → List ℕ
laid_numbers l = at 4 l.cost.0 (at 5 l.steps.0 (at 12 l.page (outcome_numbers l.outcome)))

unfoldable pub translated_numbers : Translated → List ℕ
translated_numbers t = at 13 t.file (outcome_numbers t.outcome)

-- the numbers that the code has by name, each at its place
unfoldable pub listed : Numbers → List ℕ
listed n =
    n.number ∷ n.file ∷ n.place ∷ n.rounds ∷ n.cost ∷ n.steps
    ∷ n.action_marks ∷ n.fact_marks ∷ n.reduced ∷ n.origin ∷ n.table ∷ n.plan
    ∷ n.page ∷ n.task ∷ n.turns ∷ n.list ∷ n.goal ∷ n.entries ∷ []
