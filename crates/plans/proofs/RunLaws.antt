-- Plans by their states, and plans by their steps: a list is a plan exactly when its steps are applicable in turn from
-- the start and the goal holds after them; and the plan checker's walk is done exactly then.
use Prim.Native.Nat.{ℕ, zero, suc, ◌+◌, ◌<◌}
use mathlib.Core.Path.{◌≡◌, refl, sym, subst}
use mathlib.Core.Bool.{true}
use mathlib.Core.List.{List, [], ◌∷◌}
use native.Mathlib.Omega.{arith}
use lib.ListN.{length}
use Rattle.files.specs.Outcome.{done}
use Rattle.files.specs.Task.{Task, action_count, action_of}
use Rattle.files.proofs.Guards.{passed, guard_passes}
use Rattle.plans.specs.State.{State, start_state, all_hold, applicable, apply}
use Rattle.plans.specs.Plan.{step_of, IsPlan}
use Rattle.plans.specs.Check.{take_steps}

-- from the state s the steps are applicable in turn, and the goal holds after them
abbrev pub Runs : Task → State → List ℕ → Type 0
Runs t s [] = all_hold t.goal s ≡ true
Runs t s (a ∷ plan) = (a < action_count t) × (applicable (action_of t a) s ≡ true) × Runs t (apply (action_of t a) s) plan

-- the state before step i
abbrev pub state_before : Task → State → List ℕ → ℕ → State
state_before t s plan zero = s
state_before t s [] (suc i) = s
state_before t s (a ∷ plan) (suc i) = state_before t (apply (action_of t a) s) plan i

module _ (t : Task) where
  runs_number : (s : State) (plan : List ℕ) → Runs t s plan → (i : ℕ) → i < length plan → step_of plan i < action_count t
  runs_number s [] r i h = absurd (omega arith)
  runs_number s (a ∷ plan) r zero h = r.0
  runs_number s (a ∷ plan) r (suc i) h = runs_number (apply (action_of t a) s) plan r.2 i (omega arith)

  runs_applies : (s : State) (plan : List ℕ) → Runs t s plan → (i : ℕ) → i < length plan → applicable (action_of t (step_of plan i)) (state_before t s plan i) ≡ true
  runs_applies s [] r i h = absurd (omega arith)
  runs_applies s (a ∷ plan) r zero h = r.1
  runs_applies s (a ∷ plan) r (suc i) h = runs_applies (apply (action_of t a) s) plan r.2 i (omega arith)

  states_lead : (s : State) (plan : List ℕ) (i : ℕ) → i < length plan → state_before t s plan (suc i) ≡ apply (action_of t (step_of plan i)) (state_before t s plan i)
  states_lead s [] i h = absurd (omega arith)
  states_lead s (a ∷ plan) zero h = first (apply (action_of t a) s) plan
    where
      first : (r : State) (p : List ℕ) → state_before t r p zero ≡ r
      first r p = refl
  states_lead s (a ∷ plan) (suc i) h = states_lead (apply (action_of t a) s) plan i (omega arith)

  runs_reaches : (s : State) (plan : List ℕ) → Runs t s plan → all_hold t.goal (state_before t s plan (length plan)) ≡ true
  runs_reaches s [] r = r
  runs_reaches s (a ∷ plan) r = runs_reaches (apply (action_of t a) s) plan r.2

  pub runs_plan : (plan : List ℕ) → Runs t (start_state t) plan → IsPlan t plan
  runs_plan plan r =
      record {
        states = state_before t (start_state t) plan;
        starts = refl;
        numbers = runs_number (start_state t) plan r;
        applies = runs_applies (start_state t) plan r;
        leads = states_lead (start_state t) plan;
        reaches = runs_reaches (start_state t) plan r;
      }

  -- the states of a plan from step k on, which the rest of the plan runs through
  sequence_runs : (plan : List ℕ) (states : ℕ → State)
      → ((i : ℕ) → i < length plan → step_of plan i < action_count t)
      → ((i : ℕ) → i < length plan → applicable (action_of t (step_of plan i)) (states i) ≡ true)
      → ((i : ℕ) → i < length plan → states (suc i) ≡ apply (action_of t (step_of plan i)) (states i))
      → all_hold t.goal (states (length plan)) ≡ true
      → Runs t (states 0) plan
  sequence_runs [] states n a l g = g
  sequence_runs (x ∷ plan) states n a l g = (
    n 0 (omega arith),
    a 0 (omega arith),
    subst (λ (s : State). Runs t s plan) (l 0 (omega arith))
        (sequence_runs plan (λ i. states (suc i)) (λ i h. n (suc i) (omega arith)) (λ i h. a (suc i) (omega arith)) (λ i h. l (suc i) (omega arith)) g),
  )

  pub plan_runs : (plan : List ℕ) → IsPlan t plan → Runs t (start_state t) plan
  plan_runs plan p =
      subst (λ (s : State). Runs t s plan) p.starts (sequence_runs plan p.states p.numbers p.applies p.leads p.reaches)

  -- the checker's walk
  pub walk_done : (s : State) (i : ℕ) (plan : List ℕ) → Runs t s plan → take_steps t s i plan ≡ done
  unfolding take_steps
  walk_done s i [] r = sym (guard_passes (all_hold t.goal s) 23 i done done r refl)
  walk_done s i (a ∷ plan) r =
      sym (guard_passes (applicable (action_of t a) s) 22 i _ done r.1 (sym (walk_done (apply (action_of t a) s) (i + 1) plan r.2)))

  pub done_walk : (s : State) (i : ℕ) (plan : List ℕ) → ((k : ℕ) → k < length plan → step_of plan k < action_count t) → (take_steps t s i plan).number ≡ 0 → Runs t s plan
  unfolding take_steps
  done_walk s i [] n e = (passed (all_hold t.goal s) 23 i done (omega arith) e).0
  done_walk s i (a ∷ plan) n e =
      let p = passed (applicable (action_of t a) s) 22 i (take_steps t (apply (action_of t a) s) (i + 1) plan) (omega arith) e in
      (n 0 (omega arith), p.0, done_walk (apply (action_of t a) s) (i + 1) plan (λ k h. n (suc k) (omega arith)) p.1)
