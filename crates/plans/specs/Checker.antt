-- What the plan checker promises: what it answers, and that it says done exactly for a plan.
use Rattle.std.specs.Prelude.{ℕ, ◌≡◌, true, List, [], ◌∷◌, ◌++◌, ◌↔◌, ltb, length}
use Rattle.files.specs.Below.{all_of}
use Rattle.files.specs.Listed.{Refusal, refused_at, file_refusals}
use Rattle.files.specs.Outcome.{done, in_second}
use Rattle.files.specs.Stages.{Stage, stage, Answers}
use Rattle.files.specs.Task.{Task, action_count}
use Rattle.files.specs.TaskFile.{check_task, task_of}
use Rattle.files.specs.PlanFile.{check_plan_file, plan_of}
use Rattle.plans.specs.State.{start_state}
use Rattle.plans.specs.Plan.{IsPlan, no_steps, total_of}
use Rattle.plans.specs.Check.{take_steps, with_total, check_plan}

-- a step that is not applicable: 22 at a step of the list
abbrev pub step_refused : List ℕ → Refusal
step_refused plan = record { number = 22; file = 0; place = λ step. ltb step (length plan) }

abbrev pub check_refusals : List ℕ → List ℕ → List Refusal
check_refusals task plan =
    file_refusals 0 task
    ++ file_refusals 1 plan
    ++ (step_refused (plan_of plan) ∷ refused_at 23 (length (plan_of plan)) ∷ [])

-- the first file whole, then the second, then the steps and the goal; nothing is lent
abbrev pub check_stages : List ℕ → List ℕ → List (Stage Unit)
check_stages task plan =
    stage (check_task task) tt
    ∷ stage (in_second (check_plan_file (action_count (task_of task)) plan)) tt
    ∷ stage (take_steps (task_of task) (start_state (task_of task)) 0 (plan_of plan)) tt
    ∷ []

abbrev pub CheckAnswers : List ℕ → List ℕ → Type 0
CheckAnswers task plan =
    Answers (check_refusals task plan) (check_stages task plan)
    (with_total done (total_of (task_of task) (plan_of plan)))
    (λ o. with_total o no_steps)
    tt (check_plan task plan) tt

pub record CheckerRight (task plan : List ℕ) : Type 0 where
  -- it says yes exactly when neither file is refused and the list is a plan
  pub yes :
      ((check_plan task plan).outcome ≡ done)
      ↔ ((check_task task ≡ done) × (check_plan_file (action_count (task_of task)) plan ≡ done) × IsPlan (task_of task) (plan_of plan))
  -- and gives its cost and steps
  pub cost : (check_plan task plan).outcome ≡ done → (check_plan task plan).cost.0 ≡ (total_of (task_of task) (plan_of plan)).minutes
  pub steps : (check_plan task plan).outcome ≡ done → (check_plan task plan).steps.0 ≡ length (plan_of plan)

-- the same of a list of any length, which no plan file limits
abbrev pub ListRight : Task → List ℕ → Type 0
ListRight t plan = ((all_of (λ a. ltb a (action_count t)) plan ≡ true) × (take_steps t (start_state t) 0 plan ≡ done)) ↔ IsPlan t plan
