-- The plan checker's answer.
use Rattle.std.specs.Prelude.{ℕ, ◌+◌, cond, List, [], ◌∷◌, Result, Ok, Err}
use Rattle.files.specs.Outcome.{Outcome, done, refused, is_done, guard, and_then, in_second}
use Rattle.files.specs.declared.refusals.Refusal.{Refusal}
use Rattle.files.specs.declared.units.Minutes.{Minutes}
use Rattle.files.specs.declared.units.Steps.{Steps}
use Rattle.files.specs.Task.{Task, action_count, action_of}
use Rattle.files.specs.TaskFile.{check_task, task_of}
use Rattle.files.specs.PlanFile.{check_plan_file, plan_of}
use Rattle.plans.specs.State.{State, start_state, all_hold, applicable, apply}
use Rattle.plans.specs.Plan.{Total, no_steps, total_of}
use Rattle.plans.specs.declared.PlanTotal.{PlanTotal}

-- the steps in turn from a state, the first being step i; then the goal
unfoldable pub take_steps : Task → State → ℕ → List ℕ → Outcome
take_steps t s i [] = guard (all_hold t.goal s) 23 i done
take_steps t s i (a ∷ plan) =
    guard (applicable (action_of t a) s) 22 i
    (take_steps t (apply (action_of t a) s) (i + 1) plan)

unfoldable pub plan_outcome : List ℕ → List ℕ → Outcome
plan_outcome task plan =
    and_then (check_task task)
    (and_then (in_second (check_plan_file (action_count (task_of task)) plan))
    (take_steps (task_of task) (start_state (task_of task)) 0 (plan_of plan)))

-- what the plan checker answers
pub record Checked : Type 0 where
  pub outcome : Outcome
  pub cost : Minutes
  pub steps : Steps

-- an outcome with cost and steps, which are 0 beside a refusal
unfoldable pub with_total : Outcome → Total → Checked
with_total o total = record { outcome = o; cost = record { 0 = total.minutes }; steps = record { 0 = total.steps } }

-- the numbers of the call's answer
abbrev pub checked_of : Result PlanTotal Refusal → Checked
checked_of (Ok total) = record { outcome = done; cost = total.cost; steps = total.steps }
checked_of (Err r) = with_total (refused r) no_steps

-- the total of the list beside an outcome that is done
unfoldable pub answer : Outcome → Task → List ℕ → Checked
answer o t plan = with_total o (cond (is_done o) (total_of t plan) no_steps)

-- a list against a task
unfoldable pub walk_answer : Task → List ℕ → Checked
walk_answer t plan = answer (take_steps t (start_state t) 0 plan) t plan

unfoldable pub check_plan : List ℕ → List ℕ → Checked
check_plan task plan = answer (plan_outcome task plan) (task_of task) (plan_of plan)
