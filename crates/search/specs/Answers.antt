-- What the planner promises of its outcomes: what it answers, and what each of the six lent buffers then holds.
use Rattle.std.specs.Prelude.{ℕ, List, [], ◌∷◌, ◌++◌, length}
use Rattle.files.specs.Listed.{Refusal, refused_at, short, file_refusals}
use Rattle.files.specs.PlanFile.{plan_file}
use Rattle.files.specs.Stages.{Answers}
use Rattle.files.specs.Task.{action_count, fact_count}
use Rattle.files.specs.TaskFile.{task_of}
use Rattle.reduction.specs.Reduce.{reduced_file, origins_file}
use Rattle.search.specs.Planner.{taken_level, searched_states, plan_made, Lent, plan_stages, plan_whole, unplanned, plan_answer, plan_after}

abbrev pub plan_refusals : List ℕ → ℕ → ℕ → List Refusal
plan_refusals task level signer =
    file_refusals 0 task
    ++ (refused_at 8 0
    ∷ refused_at 7 0
    ∷ short (action_count (task_of task))
    ∷ short (fact_count (task_of task))
    ∷ short (length (reduced_file (task_of task) level signer))
    ∷ short (length (origins_file (task_of task) level signer))
    ∷ refused_at 25 0
    ∷ short (searched_states task level)
    ∷ refused_at 24 0
    ∷ short (length (plan_file (plan_made task level) signer))
    ∷ [])

abbrev pub PlanAnswers : List ℕ → ℕ → ℕ → Lent → Type 0
PlanAnswers task level signer b =
    Answers (plan_refusals task (taken_level level) signer) (plan_stages task (taken_level level) signer b) (plan_whole task (taken_level level) signer) unplanned
    b (plan_answer task level signer b) (plan_after task level signer b)
