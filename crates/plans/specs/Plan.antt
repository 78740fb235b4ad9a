-- Plans, their cost and steps, and the cheapest plans of fewest steps.
use Rattle.std.specs.Prelude.{ℕ, suc, ◌+◌, ◌<◌, ◌≡◌, Bool, true, false, ◌&&◌, ◌||◌, List, [], ◌∷◌, eqb, ltb, leb, length, get_or}
use Rattle.files.specs.Task.{Action, Task, action_count, action_of}
use Rattle.plans.specs.State.{State, start_state, all_hold, applicable, apply}

-- the number of step i
abbrev pub step_of : List ℕ → ℕ → ℕ
step_of plan i = get_or plan i 0

-- a plan by the SAS+ definition: a sequence of states from the start, one more than there are steps; each step is an
-- action that is applicable in its state and leads to the next; the goal holds in the last
pub record IsPlan (t : Task) (plan : List ℕ) : Type 0 where
  pub states : ℕ → State
  pub starts : states 0 ≡ start_state t
  pub numbers : (i : ℕ) → i < length plan → step_of plan i < action_count t
  pub applies : (i : ℕ) → i < length plan → applicable (action_of t (step_of plan i)) (states i) ≡ true
  pub leads : (i : ℕ) → i < length plan → states (suc i) ≡ apply (action_of t (step_of plan i)) (states i)
  pub reaches : all_hold t.goal (states (length plan)) ≡ true

-- cost and steps of a list of actions
pub record Total : Type 0 where
  pub minutes : ℕ
  pub steps : ℕ

unfoldable pub no_steps : Total
no_steps = record { minutes = 0; steps = 0 }

-- with one step more
unfoldable pub add_step : Action → Total → Total
add_step a total = record { minutes = a.cost + total.minutes; steps = total.steps + 1 }

unfoldable pub total_of : Task → List ℕ → Total
total_of t [] = no_steps
total_of t (a ∷ plan) = add_step (action_of t a) (total_of t plan)

-- costs less, or the same with at most as many steps
unfoldable pub at_most : Total → Total → Bool
at_most x y = ltb x.minutes y.minutes || (eqb x.minutes y.minutes && leb x.steps y.steps)

-- a cheapest plan of fewest steps (01)
pub record Best (t : Task) (plan : List ℕ) : Type 0 where
  pub is_plan : IsPlan t plan
  pub least : (other : List ℕ) → IsPlan t other → at_most (total_of t plan) (total_of t other) ≡ true

-- the first by comparing action numbers step by step
unfoldable pub not_after : List ℕ → List ℕ → Bool
not_after [] other = true
not_after (a ∷ plan) [] = false
not_after (a ∷ plan) (b ∷ other) = ltb a b || (eqb a b && not_after plan other)

-- of all cheapest plans of fewest steps, the first
pub record FirstBest (t : Task) (plan : List ℕ) : Type 0 where
  pub best : Best t plan
  pub first : (other : List ℕ) → Best t other → not_after plan other ≡ true
