-- What reduction called alone promises, and what the call for the condition stretch promises: what each answers, and what
-- the lent buffers then hold.
use Rattle.std.specs.Prelude.{ℕ, ◌*◌, ◌≤◌, ◌≡◌, List, [], ◌∷◌, ◌++◌, ltb, length}
use Rattle.files.specs.Outcome.{Outcome, done, guard, in_second}
use Rattle.files.specs.Listed.{Refusal, refused_at, short, file_refusals}
use Rattle.files.specs.Stages.{Stage, stage, Answers}
use Rattle.files.specs.Task.{Pair, action_count, fact_count, action_of}
use Rattle.files.specs.TaskFile.{check_task, task_of, pair_bytes}
use Rattle.reduction.specs.Reduce.{Buffers, reduced_file, origins_file, reduce_file_stages, reduce_whole, no_files, reduce, reduce_after}
use Rattle.reduction.specs.Stretch.{side_of, stretch_outcome, stretch}

abbrev pub reduce_refusals : List ℕ → ℕ → ℕ → List Refusal
reduce_refusals task level signer =
    file_refusals 0 task
    ++ (refused_at 8 0
    ∷ refused_at 7 0
    ∷ short (action_count (task_of task))
    ∷ short (fact_count (task_of task))
    ∷ short (length (reduced_file (task_of task) level signer))
    ∷ short (length (origins_file (task_of task) level signer))
    ∷ [])

abbrev pub ReduceAnswers : List ℕ → ℕ → ℕ → Buffers → Type 0
ReduceAnswers task level signer b =
    Answers (reduce_refusals task level signer) (reduce_file_stages task level signer b) (reduce_whole (task_of task) level signer) no_files
    b (reduce task level signer b) (reduce_after task level signer b)

-- buffers that are long enough for reduction (01)
pub record LongEnough (task : List ℕ) (level signer : ℕ) (b : Buffers) : Type 0 where
  pub actions : action_count (task_of task) ≤ length b.actions
  pub facts : fact_count (task_of task) ≤ length b.facts
  pub reduced : length (reduced_file (task_of task) level signer) ≤ length b.reduced
  pub origin : length (origins_file (task_of task) level signer) ≤ length b.origin

-- the stretch with its outcome
pub record Stretched : Type 0 where
  pub outcome : Outcome
  pub stretch : List ℕ

abbrev pub stretched : Outcome → List ℕ → Stretched
stretched outcome stretch = record { outcome = outcome; stretch = stretch }

abbrev pub stretch_refusals : List ℕ → List ℕ → List Refusal
stretch_refusals full reduced = file_refusals 0 full ++ file_refusals 1 reduced ++ (refused_at 5 0 ∷ [])

-- the first file, the second, then the action; nothing is lent but the outcome's numbers
abbrev pub stretch_stages : List ℕ → List ℕ → ℕ → ℕ → List (Stage Unit)
stretch_stages full reduced side a =
    stage (check_task full) tt
    ∷ stage (in_second (check_task reduced)) tt
    ∷ stage (guard (ltb a (action_count (task_of (side_of side full reduced)))) 5 0 done) tt
    ∷ []

-- the action's conditions, as the task of that side's file has them
abbrev pub conditions_of : List ℕ → List ℕ → ℕ → ℕ → List Pair
conditions_of full reduced side a = (action_of (task_of (side_of side full reduced)) a).conditions

-- the stretch is their pairs; a refusal's is empty
abbrev pub StretchAnswers : List ℕ → List ℕ → ℕ → ℕ → Type 0
StretchAnswers full reduced side a =
    Answers (stretch_refusals full reduced) (stretch_stages full reduced side a)
    (stretched done (pair_bytes (conditions_of full reduced side a))) (λ o. stretched o [])
    tt (stretched (stretch_outcome full reduced side a) (stretch full reduced side a)) tt

-- it has 4 bytes for each of them
abbrev pub StretchLength : List ℕ → List ℕ → ℕ → ℕ → Type 0
StretchLength full reduced side a =
    stretch_outcome full reduced side a ≡ done → length (stretch full reduced side a) ≡ 4 * length (conditions_of full reduced side a)
