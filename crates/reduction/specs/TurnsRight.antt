-- What is promised of reach and of turns, for every accepted task.
use Rattle.std.specs.Prelude.{ℕ, ◌+◌, ◌≤◌, ◌<◌, ◌≡◌, Bool, true, List, length}
use Rattle.files.specs.Accepted.{accepted_task, accepted_origin}
use Rattle.files.specs.Task.{Task, variable_count, action_count, size_of, fact_count}
use Rattle.files.specs.TaskFile.{task_file}
use Rattle.plans.specs.Plan.{step_of, IsPlan}
use Rattle.reduction.specs.Preserved.{Preserves}
use Rattle.reduction.specs.Reach.{action_reached, reached}
use Rattle.reduction.specs.Turns.{originals, turn_task, turning}

-- a set of actions has every action all of whose conditions it reaches
abbrev pub ReachClosed : Task → (ℕ → Bool) → Type 0
ReachClosed t R = (a : ℕ) → a < action_count t → action_reached t R a ≡ true → R a ≡ true

pub record ReachedRight (t : Task) : Type 0 where
  -- an action is reached if all its conditions are
  pub closed : ReachClosed t (reached t)
  -- and only what follows from this is reached
  pub least : (R : ℕ → Bool) → ReachClosed t R → (a : ℕ) → reached t a ≡ true → R a ≡ true
  -- every plan uses reached actions alone
  pub plans : (plan : List ℕ) → IsPlan t plan → (i : ℕ) → i < length plan → reached t (step_of plan i) ≡ true

pub record TurnsRight (t : Task) : Type 0 where
  -- at least one turn, and at most actions plus facts plus 1
  pub some_turn : 1 ≤ (turning t).turns
  pub few_turns : (turning t).turns ≤ action_count t + fact_count t + 1
  -- one turn more leaves the final task
  pub final : turn_task (turning t).task ≡ (turning t).task
  -- every variable of it has at least two values
  pub two_values : (v : ℕ) → v < variable_count (turning t).task → 2 ≤ size_of (turning t).task v
  -- it is accepted, and its file is no longer
  pub accepted : accepted_task (turning t).task ≡ true
  pub no_longer : (signer : ℕ) → length (task_file (turning t).task signer) ≤ length (task_file t signer)
  -- its origins are accepted, with a number for each action
  pub origin_accepted : accepted_origin (turning t).origin ≡ true
  pub origin_actions : length (turning t).origin.actions ≡ action_count (turning t).task
  -- and by their numbers the best plans are those of the task
  pub preserves : Preserves t (turning t).task (originals (turning t).origin)
