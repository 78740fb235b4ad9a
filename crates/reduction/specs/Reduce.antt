-- Reduction called alone: the row of check, marking and reduction, with what each lent buffer holds after every outcome.
use Rattle.std.specs.Prelude.{ℕ, Bool, ◌&&◌, List, [], ◌∷◌, leb, length, Result, Ok, Err}
use Rattle.files.specs.Outcome.{Outcome, done, refused, guard, and_then, fits, overwrite}
use Rattle.files.specs.declared.refusals.Refusal.{Refusal}
use Rattle.files.specs.Stages.{Stage, stage, left_by, answer_by, ByStages}
use Rattle.files.specs.Task.{Task, action_count, fact_count}
use Rattle.files.specs.TaskFile.{check_task, task_of, task_file}
use Rattle.files.specs.OriginFile.{Origin, origin_file}
use Rattle.marking.specs.Rounds.{marking}
use Rattle.marking.specs.Mark.{marks_fit, action_marks_of, fact_marks_of}
use Rattle.reduction.specs.Task.{mark_level, reduced_task, origins_at, turn_count}
use Rattle.reduction.specs.declared.Counts.{Counts}

-- the numbers of an answer: the outcome, the four lengths written, the round count and the turn count, 0 beside a refusal
pub record Reduced : Type 0 where
  pub outcome : Outcome
  pub action_marks : ℕ
  pub fact_marks : ℕ
  pub reduced : ℕ
  pub origin : ℕ
  pub rounds : ℕ
  pub turns : ℕ

-- the files of the reduced task and its origins under a signer
unfoldable pub reduced_file : Task → ℕ → ℕ → List ℕ
reduced_file t level signer = task_file (reduced_task t level) signer

unfoldable pub origins_file : Task → ℕ → ℕ → List ℕ
origins_file t level signer = origin_file (origins_at t level) signer

-- the room for the files of a task and its origins, before either is written
unfoldable pub files_fit : Task → Origin → ℕ → ℕ → ℕ → Outcome
files_fit t origins signer reduced_room_here origin_room_here =
    fits (length (task_file t signer)) reduced_room_here
    (fits (length (origin_file origins signer)) origin_room_here
    done)

-- the four lent buffers
pub record Buffers : Type 0 where
  pub actions : List ℕ
  pub facts : List ℕ
  pub reduced : List ℕ
  pub origin : List ℕ

abbrev pub buffers : List ℕ → List ℕ → List ℕ → List ℕ → Buffers
buffers actions facts reduced origin = record { actions = actions; facts = facts; reduced = reduced; origin = origin }

-- buffers with the marks at their fronts, and with both files too
abbrev pub with_marks : Task → ℕ → Buffers → Buffers
with_marks t level b =
    buffers
    (overwrite b.actions (action_marks_of t (mark_level level)))
    (overwrite b.facts (fact_marks_of t (mark_level level)))
    b.reduced
    b.origin

abbrev pub with_files : Task → ℕ → ℕ → Buffers → Buffers
with_files t level signer b =
    buffers
    (overwrite b.actions (action_marks_of t (mark_level level)))
    (overwrite b.facts (fact_marks_of t (mark_level level)))
    (overwrite b.reduced (reduced_file t level signer))
    (overwrite b.origin (origins_file t level signer))

-- reduction takes the levels 1 to 5
unfoldable pub valid_reduction : ℕ → Bool
valid_reduction level = leb 1 level && leb level 5

-- the file, the level and the signer that are given
unfoldable pub reduce_input : List ℕ → ℕ → ℕ → Outcome
reduce_input task level signer =
    and_then (check_task task)
    (guard (valid_reduction level) 8 0
    (guard (leb 1 signer) 7 0
    done))

-- the stages, after what is given: the room for both marks, then the marks; the room for both files, then the files
unfoldable pub reduce_stages : Outcome → Task → ℕ → ℕ → Buffers → List (Stage Buffers)
reduce_stages input t level signer b =
    stage (and_then input (marks_fit t (length b.actions) (length b.facts))) (with_marks t level b)
    ∷ stage (files_fit (reduced_task t level) (origins_at t level) signer (length b.reduced) (length b.origin)) (with_files t level signer b)
    ∷ []

-- the four lengths, the round count and the turn count
abbrev pub reduce_whole : Task → ℕ → ℕ → Reduced
reduce_whole t level signer =
    record {
      outcome = done;
      action_marks = action_count t;
      fact_marks = fact_count t;
      reduced = length (reduced_file t level signer);
      origin = length (origins_file t level signer);
      rounds = (marking t (mark_level level)).rounds;
      turns = turn_count t level;
    }

-- beside a refusal there are no lengths, rounds and turns
abbrev pub no_files : Outcome → Reduced
no_files o = record { outcome = o; action_marks = 0; fact_marks = 0; reduced = 0; origin = 0; rounds = 0; turns = 0 }

-- the numbers of an answer
abbrev pub reduced_of : Result Counts Refusal → Reduced
reduced_of (Ok c) =
    record {
      outcome = done;
      action_marks = c.action_marks;
      fact_marks = c.fact_marks;
      reduced = c.reduced;
      origin = c.origin;
      rounds = c.rounds;
      turns = c.turns;
    }
reduced_of (Err r) = no_files (refused r)

-- reduction of a task, after what is given: what it answers, and what the buffers hold now
abbrev pub ReducesTask : Outcome → Task → ℕ → ℕ → Buffers → Reduced → Buffers → Type 0
ReducesTask input t level signer b answer now = ByStages (reduce_stages input t level signer b) (reduce_whole t level signer) no_files b answer now

-- reduction called alone
abbrev pub Reduces : List ℕ → ℕ → ℕ → Buffers → Reduced → Buffers → Type 0
Reduces task level signer b answer now = ReducesTask (reduce_input task level signer) (task_of task) level signer b answer now

abbrev pub reduce_file_stages : List ℕ → ℕ → ℕ → Buffers → List (Stage Buffers)
reduce_file_stages task level signer b = reduce_stages (reduce_input task level signer) (task_of task) level signer b

abbrev pub reduce : List ℕ → ℕ → ℕ → Buffers → Reduced
reduce task level signer b = answer_by (reduce_file_stages task level signer b) (reduce_whole (task_of task) level signer) no_files

abbrev pub reduce_after : List ℕ → ℕ → ℕ → Buffers → Buffers
reduce_after task level signer b = left_by (reduce_file_stages task level signer b) b
