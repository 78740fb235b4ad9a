-- The result of marking as bytes, and the answer of the call with what its buffers hold.
use Rattle.std.specs.Prelude.{ℕ, ◌+◌, Bool, ◌&&◌, List, [], ◌∷◌, map, leb, length, Result, Ok, Err}
use Rattle.files.specs.Outcome.{Outcome, done, refused, guard, and_then, fits, overwrite}
use Rattle.files.specs.declared.refusals.Refusal.{Refusal}
use Rattle.files.specs.Below.{tabulate, bit, join_below}
use Rattle.files.specs.Stages.{Stage, stage, left_by, answer_by, ByStages}
use Rattle.files.specs.Task.{Task, variable_count, action_count, fact_count, size_of}
use Rattle.files.specs.TaskFile.{check_task, task_of}
use Rattle.marking.specs.Marks.{Marks, kept, relevant}
use Rattle.marking.specs.Links.{linked}
use Rattle.marking.specs.Rounds.{marking}
use Rattle.marking.specs.declared.Counts.{Counts}

-- a byte per action: 1 kept, 0 not
unfoldable pub action_marks_of : Task → ℕ → List ℕ
action_marks_of t level = map bit (marking t level).marks.actions

-- a fact's byte: 0; 1 relevant; 2 relevant and linked
unfoldable pub fact_mark : Task → ℕ → Marks → ℕ → ℕ → ℕ
fact_mark t level m v value = bit (relevant m v value) + bit (relevant m v value && linked t level (kept m) v value)

-- a byte per fact, by variable, then value
unfoldable pub fact_marks_of : Task → ℕ → List ℕ
fact_marks_of t level =
    let m = (marking t level).marks in
    join_below (variable_count t) (λ v. tabulate (size_of t v) (fact_mark t level m v))

unfoldable pub valid_level : ℕ → Bool
valid_level level = leb 1 level && leb level 4

-- the buffers for both marks, before either is written
unfoldable pub marks_fit : Task → ℕ → ℕ → Outcome
marks_fit t action_room fact_room = fits (action_count t) action_room (fits (fact_count t) fact_room done)

-- the lent buffers
pub record MarkBuffers : Type 0 where
  pub actions : List ℕ
  pub facts : List ℕ

abbrev pub mark_buffers : List ℕ → List ℕ → MarkBuffers
mark_buffers actions facts = record { actions = actions; facts = facts }

-- both buffers with the marks at their fronts
abbrev pub marked_buffers : Task → ℕ → MarkBuffers → MarkBuffers
marked_buffers t level b = mark_buffers (overwrite b.actions (action_marks_of t level)) (overwrite b.facts (fact_marks_of t level))

-- the file and the level that are given
unfoldable pub mark_input : List ℕ → ℕ → Outcome
mark_input task level =
    and_then (check_task task)
    (guard (valid_level level) 8 0
    done)

-- one stage, after what is given: the room for both marks, then both are written
unfoldable pub mark_stages : Outcome → Task → ℕ → MarkBuffers → List (Stage MarkBuffers)
mark_stages input t level b = stage (and_then input (marks_fit t (length b.actions) (length b.facts))) (marked_buffers t level b) ∷ []

-- what marking answers: both lengths written and the round count, 0 beside a refusal
pub record Marked : Type 0 where
  pub outcome : Outcome
  pub action_marks : ℕ
  pub fact_marks : ℕ
  pub rounds : ℕ

-- both lengths and the round count
abbrev pub mark_whole : Task → ℕ → Marked
mark_whole t level = record { outcome = done; action_marks = action_count t; fact_marks = fact_count t; rounds = (marking t level).rounds }

-- beside a refusal there are no lengths and no rounds
abbrev pub no_marks : Outcome → Marked
no_marks o = record { outcome = o; action_marks = 0; fact_marks = 0; rounds = 0 }

-- the numbers of an answer
abbrev pub marked_of : Result Counts Refusal → Marked
marked_of (Ok c) = record { outcome = done; action_marks = c.action_marks; fact_marks = c.fact_marks; rounds = c.rounds }
marked_of (Err r) = no_marks (refused r)

-- marking of a task, after what is given: what it answers, and what the buffers hold now
abbrev pub MarksTask : Outcome → Task → ℕ → MarkBuffers → Marked → MarkBuffers → Type 0
MarksTask input t level b answer now = ByStages (mark_stages input t level b) (mark_whole t level) no_marks b answer now

-- marking called alone
abbrev pub MarksFile : List ℕ → ℕ → MarkBuffers → Marked → MarkBuffers → Type 0
MarksFile task level b answer now = MarksTask (mark_input task level) (task_of task) level b answer now

abbrev pub mark_file_stages : List ℕ → ℕ → MarkBuffers → List (Stage MarkBuffers)
mark_file_stages task level b = mark_stages (mark_input task level) (task_of task) level b

abbrev pub mark : List ℕ → ℕ → MarkBuffers → Marked
mark task level b = answer_by (mark_file_stages task level b) (mark_whole (task_of task) level) no_marks

abbrev pub mark_after : List ℕ → ℕ → MarkBuffers → MarkBuffers
mark_after task level b = left_by (mark_file_stages task level b) b
