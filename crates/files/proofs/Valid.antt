-- What an accepted task is, as facts about its variables, its goal and its actions.
use Prim.Native.Nat.{ℕ, zero, suc, ◌+◌, ◌≤◌, ◌<◌}
use mathlib.Core.Path.{◌≡◌, refl}
use mathlib.Core.Bool.{Bool, true, false, cond}
use mathlib.Core.List.{List, [], ◌∷◌}
use mathlib.Core.Option.{some}
use native.Mathlib.Omega.{arith}
use lib.ListN.{length, get_or}
use lib.Dec.{eqb}
use borrow.Author.Tests.{eqb-true}
use Rattle.files.specs.Below.{all_of}
use Rattle.files.specs.Task.{Pair, Variable, Action, Task, pair, variable, action, variable_count, action_count, action_of, size_of, start_of, value_in}
use Rattle.files.specs.TaskFile.{task_file}
use Rattle.files.specs.Accepted.{valid_pairs, valid_variable, valid_action, accepted_task}
use Rattle.files.proofs.Done.{facts}

-- an entry of a list whose entries all pass
pub all_at : {A : Type 0} (f : A → Bool) (xs : List A) (d : A) (i : ℕ) → all_of f xs ≡ true → i < length xs → f (get_or xs i d) ≡ true
all_at f [] d i a h = absurd (omega arith)
all_at f (x ∷ xs) d zero a h = (simp facts at a).0
all_at f (x ∷ xs) d (suc i) a h = all_at f xs d i (simp facts at a).1 (omega arith)

-- the same past the list's end, where what stands there passes
pub all_anywhere : {A : Type 0} (f : A → Bool) (xs : List A) (d : A) (i : ℕ) → all_of f xs ≡ true → f d ≡ true → f (get_or xs i d) ≡ true
all_anywhere f [] d i a h = h
all_anywhere f (x ∷ xs) d zero a h = (simp facts at a).0
all_anywhere f (x ∷ xs) d (suc i) a h = all_anywhere f xs d i (simp facts at a).1 h

-- a pair of the task, whose variable is at least `at_least`
pub record ValidPair (t : Task) (at_least : ℕ) (p : Pair) : Type 0 where
  pub above : at_least ≤ p.variable
  pub known : p.variable < variable_count t
  pub inside : p.value < size_of t p.variable

module _ (t : Task) where
  -- the value that a list gives a variable
  pub value_valid : (at_least : ℕ) (ps : List Pair) (v x : ℕ) → valid_pairs t at_least ps ≡ true → value_in ps v ≡ some x → ValidPair t at_least (pair v x)
  unfolding valid_pairs
  value_valid at_least [] v x h e = let z : ◌≡◌ {A = ℕ} 0 1 = cc in absurd (omega arith)
  value_valid at_least (p ∷ ps) v x h e =
      go (eqb p.variable v) refl e (λ q. value_valid (p.variable + 1) ps v x (simp facts at h).1.1.1 q)
    where
      go : (b : Bool) → eqb p.variable v ≡ b → cond b (some p.value) (value_in ps v) ≡ some x → (value_in ps v ≡ some x → ValidPair t (p.variable + 1) (pair v x)) → ValidPair t at_least (pair v x)
      go true q r rest =
          let first = simp facts at h in
          let same_variable : p.variable ≡ v = eqb-true p.variable v q in
          let same_value : p.value ≡ x = cc in
          record { above = omega arith; known = omega arith; inside = rw (← same_variable, ← same_value) first.1.1.0 }
      go false q r rest =
          let first = simp facts at h in
          let found = rest r in
          record { above = omega (arith, found.above); known = found.known; inside = found.inside }

pub record ValidAction (t : Task) (a : Action) : Type 0 where
  pub cost : a.cost ≤ 1000000
  pub conditions_few : length a.conditions ≤ 64
  pub effects_few : length a.effects ≤ 64
  pub conditions : valid_pairs t 0 a.conditions ≡ true
  pub effects : valid_pairs t 0 a.effects ≡ true

pub action_valid : (t : Task) (a : Action) → valid_action t a ≡ true → ValidAction t a
unfolding valid_action
action_valid t a h =
    let parts = simp facts at h in
    record {
      cost = parts.0;
      conditions_few = parts.1.0;
      effects_few = parts.1.1.0;
      conditions = parts.1.1.1.0;
      effects = parts.1.1.1.1;
    }

pub record Valid (t : Task) : Type 0 where
  pub variables_few : variable_count t ≤ 64
  pub actions_few : action_count t ≤ 512
  pub variables : all_of valid_variable t.variables ≡ true
  pub size_least : (v : ℕ) → v < variable_count t → 1 ≤ size_of t v
  pub size_most : (v : ℕ) → size_of t v ≤ 32
  pub start : (v : ℕ) → v < variable_count t → start_of t v < size_of t v
  pub goal_few : length t.goal ≤ 64
  pub goal : valid_pairs t 0 t.goal ≡ true
  pub actions : all_of (valid_action t) t.actions ≡ true
  pub action : (a : ℕ) → ValidAction t (action_of t a)
  pub file : length (task_file t 1) ≤ 65536

sizes_most : (vs : List Variable) (v : ℕ) → all_of valid_variable vs ≡ true → (get_or vs v (variable 0 0)).size ≤ 32
unfolding valid_variable
sizes_most [] v a = omega arith
sizes_most (x ∷ vs) zero a = (simp facts at a).0.1.0
sizes_most (x ∷ vs) (suc v) a = sizes_most vs v (simp facts at a).1

pub task_valid : (t : Task) → accepted_task t ≡ true → Valid t
unfolding accepted_task valid_variable valid_action valid_pairs
task_valid t h =
    let parts = simp facts at h in
    record {
      variables_few = parts.0;
      actions_few = parts.1.0;
      variables = parts.1.1.0;
      size_least = λ v l. (simp facts at (all_at valid_variable t.variables (variable 0 0) v parts.1.1.0 l)).0;
      size_most = λ v. sizes_most t.variables v parts.1.1.0;
      start = λ v l. (simp facts at (all_at valid_variable t.variables (variable 0 0) v parts.1.1.0 l)).1.1;
      goal_few = parts.1.1.1.0;
      goal = parts.1.1.1.1.0;
      actions = parts.1.1.1.1.1.0;
      action = λ a. action_valid t (action_of t a) (all_anywhere (valid_action t) t.actions (action 0 [] []) a parts.1.1.1.1.1.0 refl);
      file = parts.1.1.1.1.1.1;
    }
