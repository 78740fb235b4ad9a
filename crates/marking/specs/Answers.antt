-- What marking called alone promises: what it answers, and what both lent buffers then hold.
use Rattle.std.specs.Prelude.{ℕ, List, [], ◌∷◌, ◌++◌}
use Rattle.files.specs.Listed.{Refusal, refused_at, short, file_refusals}
use Rattle.files.specs.Stages.{Answers}
use Rattle.files.specs.Task.{action_count, fact_count}
use Rattle.files.specs.TaskFile.{task_of}
use Rattle.marking.specs.Mark.{MarkBuffers, mark_file_stages, mark_whole, no_marks, mark, mark_after}

abbrev pub mark_refusals : List ℕ → List Refusal
mark_refusals task = file_refusals 0 task ++ (refused_at 8 0 ∷ short (action_count (task_of task)) ∷ short (fact_count (task_of task)) ∷ [])

abbrev pub MarkAnswers : List ℕ → ℕ → MarkBuffers → Type 0
MarkAnswers task level b =
    Answers (mark_refusals task) (mark_file_stages task level b) (mark_whole (task_of task) level) no_marks
    b (mark task level b) (mark_after task level b)
