-- Demand 3: the striking is harmless, and the planner is right.
use mathlib.Core.Path.{◌≡◌, subst}
use mathlib.Core.Bool.{true}
use mathlib.Core.List.{List}
use mathlib.Core.Option.{none, some}
use Prim.Native.Nat.{ℕ}
use Rattle.files.specs.Accepted.{accepted_task}
use Rattle.files.specs.Task.{Task}
use Rattle.files.proofs.Logic.{split_option}
use Rattle.plans.specs.Plan.{IsPlan, Best}
use Rattle.reduction.proofs.FilesPreserved.{reduction_of_files}
use Rattle.reduction.proofs.Levels.{reduction_preserves}
use Rattle.search.specs.FirstPlan.{first_plan}
use Rattle.search.specs.Least.{PlanFirst}
use Rattle.search.proofs.Ample.{ample_suffices, never_short}
use Rattle.search.proofs.LeastPlans.{search_is_least}
use Rattle.search.proofs.PlannerRight.{planner_promise}
use Rattle.demands.specs.Demands.{Demand3}

-- a search of the task itself finds a best plan
best_exists : (t : Task) → accepted_task t ≡ true → (plan : List ℕ) → IsPlan t plan → (other : List ℕ) × Best t other
best_exists t a plan p =
    split_option (first_plan t)
    (λ q. let w : PlanFirst t none = subst (PlanFirst t) q (search_is_least t a).plan in absurd (w plan p))
    (λ r q. let w : PlanFirst t (some r) = subst (PlanFirst t) q (search_is_least t a).plan in (r, w.0.best))

pub demand_3 : Demand3
demand_3 =
    record {
      preserves = reduction_preserves;
      files = reduction_of_files;
      best = best_exists;
      search = search_is_least;
      planner = planner_promise;
      ample = ample_suffices;
      never_short = never_short;
    }
