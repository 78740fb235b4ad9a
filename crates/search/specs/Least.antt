-- What the table and the plan read off it are: least over all lists of any length.
use Rattle.std.specs.Prelude.{ℕ, ◌<◌, ◌≡◌, true, List, length, get_or}
use Rattle.std.proofs.Math.Option.{Option, none, some, map}
use Rattle.files.specs.Accepted.{accepted_task}
use Rattle.files.specs.Below.{tabulate}
use Rattle.files.specs.Task.{Task, variable, variable_count, size_of}
use Rattle.plans.specs.Plan.{IsPlan, total_of, Best, FirstBest}
use Rattle.distances.specs.States.{state_count, state_at}
use Rattle.distances.specs.Table.{Distance, distances, start_number}
use Rattle.search.specs.FirstPlan.{first_plan}

-- the task from another state on
unfoldable pub started_at : Task → ℕ → Task
started_at t n =
    record {
      variables = tabulate (variable_count t) (λ v. variable (size_of t v) (state_at t.variables n v));
      goal = t.goal;
      actions = t.actions;
    }

-- none exactly where there is no plan; else the cost and steps of a cheapest plan of fewest steps
abbrev pub DistanceLeast : Task → Distance → Type 0
DistanceLeast t none = (plan : List ℕ) → IsPlan t plan → ⊥
DistanceLeast t (some x) = (plan : List ℕ) × Best t plan × (total_of t plan ≡ x)

-- no plan exactly where there is none; else the first of all cheapest plans of fewest steps, with fewer steps than states
abbrev pub PlanFirst : Task → Option (List ℕ) → Type 0
PlanFirst t none = (plan : List ℕ) → IsPlan t plan → ⊥
PlanFirst t (some plan) = FirstBest t plan × (length plan < state_count t.variables)

pub record SearchLeast (t : Task) : Type 0 where
  -- each entry of the table, for the task from its state on
  pub entries : (n : ℕ) → n < state_count t.variables → DistanceLeast (started_at t n) (get_or (distances t) n none)
  pub plan : PlanFirst t (first_plan t)
  -- the entry of the start state has the plan's cost and steps
  pub total : get_or (distances t) (start_number t) none ≡ map (total_of t) (first_plan t)

abbrev pub SearchIsLeast : Type 0
SearchIsLeast = (t : Task) → accepted_task t ≡ true → SearchLeast t
