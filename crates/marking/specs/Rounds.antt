-- A round, the rounds up to the first that changes nothing, and their count.
use Rattle.std.specs.Prelude.{ℕ, zero, suc, ◌+◌, Bool, false, not, cond, ◌&&◌, ◌||◌, List, eqb, get_or}
use Rattle.files.specs.Below.{tabulate, any_below}
use Rattle.files.specs.Task.{Task, variable_count, action_count, action_of, fact_count}
use Rattle.marking.specs.Marks.{Marks, kept, relevant, names, action_marks, fact_marks, first_marks, same_marks}
use Rattle.marking.specs.Links.{tracked, gains_action}
use Rattle.marking.specs.Covering.{covered}

-- a list of marks as a test
abbrev pub marked : List Bool → ℕ → Bool
marked marks n = get_or marks n false

-- A after the round
unfoldable pub next_actions : Task → ℕ → Marks → List Bool
next_actions t level m = action_marks t (λ a. kept m a || gains_action t level m a)

-- the variables tracked in the round, by F as it was before
unfoldable pub tracked_marks : Task → ℕ → Marks → List Bool
tracked_marks t level m = tabulate (variable_count t) (tracked t level m)

-- the actions of A whose conditions F gains: at level 4 the uncovered ones, else all
unfoldable pub counted_actions : Task → ℕ → List Bool → List Bool → List Bool
counted_actions t level tracked_now A =
    action_marks t (λ a. marked A a && not (eqb level 4 && covered t (marked tracked_now) (marked A) a))

-- a condition of one of the actions names the fact
unfoldable pub gains_fact : Task → ℕ → List Bool → ℕ → ℕ → Bool
gains_fact t level counted v value = any_below (action_count t) (λ a. marked counted a && names level (action_of t a).conditions v value)

-- F after the round
unfoldable pub next_facts : Task → ℕ → Marks → List Bool → List (List Bool)
next_facts t level m counted = fact_marks t (λ v value. relevant m v value || gains_fact t level counted v value)

unfoldable pub next_marks : Task → ℕ → Marks → Marks
next_marks t level m =
    let A = next_actions t level m in
    let counted = counted_actions t level (tracked_marks t level m) A in
    record { actions = A; facts = next_facts t level m counted }

-- marks with the number of rounds that led to them
pub record Marking : Type 0 where
  pub marks : Marks
  pub rounds : ℕ

-- the first round that changes nothing ends it and is counted; at most `limit` rounds more
unfoldable pub mark_from : ℕ → Task → ℕ → Marks → ℕ → Marking
mark_from zero t level m rounds = record { marks = m; rounds = rounds }
mark_from (suc limit) t level m rounds =
    let next = next_marks t level m in
    let more = mark_from limit t level next (rounds + 1) in
    cond (same_marks m next) (record { marks = m; rounds = rounds + 1 }) more

-- rounds are at most facts plus actions plus 1
unfoldable pub marking : Task → ℕ → Marking
marking t level = mark_from (fact_count t + action_count t + 1) t level (first_marks t level) 0
