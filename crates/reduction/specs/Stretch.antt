-- The stretch of condition pairs of an action, in the full or the reduced file.
use Rattle.std.specs.Prelude.{ℕ, ◌+◌, ◌*◌, ◌≡◌, cond, List, [], eqb, ltb, take, drop, Result, Ok, Err}
use Rattle.std.specs.Borrow.{Bor}
use Rattle.files.specs.declared.refusals.Refusal.{Refusal}
use Rattle.files.specs.Outcome.{Outcome, done, is_done, guard, and_then, in_second}
use Rattle.files.specs.Task.{action_count}
use Rattle.files.specs.TaskFile.{check_task, task_of, action_place, conditions_in}

-- side 0 is the first file, any other number the second
unfoldable pub side_of : ℕ → List ℕ → List ℕ → List ℕ
side_of side full reduced = cond (eqb side 0) full reduced

unfoldable pub stretch_outcome : List ℕ → List ℕ → ℕ → ℕ → Outcome
stretch_outcome full reduced side a =
    and_then (check_task full)
    (and_then (in_second (check_task reduced))
    (guard (ltb a (action_count (task_of (side_of side full reduced)))) 5 0
    done))

-- the bytes of the condition pairs of an action in a task file
unfoldable pub condition_bytes : List ℕ → ℕ → List ℕ
condition_bytes s a = take (4 * conditions_in s (action_place s a)) (drop (action_place s a + 12) s)

-- a refusal's stretch is empty
unfoldable pub stretch : List ℕ → List ℕ → ℕ → ℕ → List ℕ
stretch full reduced side a =
    cond (is_done (stretch_outcome full reduced side a)) (condition_bytes (side_of side full reduced) a) []

-- the part that the call hands back: none beside a refusal
abbrev pub part_of : Result (Bor (List ℕ)) Refusal → List ℕ
part_of (Ok part) = part.now
part_of (Err r) = []

-- the call: the part that it hands back, and its outcome
pub record Stretches (full reduced : List ℕ) (side a : ℕ) (part : List ℕ) (given : Outcome) : Type 0 where
  pub stretch : part ≡ stretch full reduced side a
  pub outcome : given ≡ stretch_outcome full reduced side a
