-- Distances that some plan has, that are nothing at the goal, and that no step betters.
use Prim.Native.Nat.{ℕ, ◌<◌}
use mathlib.Core.Path.{◌≡◌}
use mathlib.Core.Bool.{true, false}
use mathlib.Core.List.{List}
use mathlib.Core.Logic.{◌⊎◌}
use mathlib.Core.Option.{none, some}
use Rattle.files.specs.Task.{Task, action_count, action_of}
use Rattle.plans.specs.State.{all_hold, applicable}
use Rattle.plans.specs.Plan.{no_steps, total_of}
use Rattle.plans.proofs.RunLaws.{Runs}
use Rattle.distances.specs.States.{state_count, state_at}
use Rattle.distances.specs.Table.{Distance, less, step_to, next_state}

-- no plan is known, or one from state n has this cost and these steps
abbrev pub Attained : Task → ℕ → Distance → Type 0
Attained t n x = (x ≡ none) ⊎ ((plan : List ℕ) × Runs t (state_at t.variables n) plan × (x ≡ some (total_of t plan)))

pub record Settled (t : Task) (f : ℕ → Distance) : Type 0 where
  pub sound : (n : ℕ) → n < state_count t.variables → Attained t n (f n)
  pub goals : (n : ℕ) → n < state_count t.variables → all_hold t.goal (state_at t.variables n) ≡ true → f n ≡ some no_steps
  pub closed : (a n : ℕ) → a < action_count t → n < state_count t.variables → applicable (action_of t a) (state_at t.variables n) ≡ true
      → less (step_to (action_of t a) (f (next_state t a n))) (f n) ≡ false
