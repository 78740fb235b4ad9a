-- A closed marking: kept actions A, relevant facts F and linked facts L, so that nothing outside them can matter.
use Prim.Native.Nat.{ℕ, ◌<◌}
use mathlib.Core.Path.{◌≡◌}
use mathlib.Core.Bool.{Bool, true, false}
use mathlib.Core.List.{List, [], ◌∷◌}
use mathlib.Core.Option.{some}
use Rattle.files.specs.Task.{Task, action_count, action_of, start_of, value_in}
use Rattle.plans.specs.State.{State, all_hold, has_fact}
use Rattle.plans.proofs.OrderLaws.{NoDearer}

-- an action of A that can take the place of a: it costs no more, asks no more and only what is relevant, and has the same
-- effect where that matters
pub record StandIn (t : Task) (A : ℕ → Bool) (F L : ℕ → ℕ → Bool) (a : ℕ) : Type 0 where
  pub to : ℕ
  pub known : to < action_count t
  pub kept : A to ≡ true
  pub no_dearer : NoDearer (action_of t to) (action_of t a)
  pub asks_less : (s : State) → all_hold (action_of t a).conditions s ≡ true → all_hold (action_of t to).conditions s ≡ true
  pub asks_relevant : (v d : ℕ) → has_fact (action_of t to).conditions v d ≡ true → F v d ≡ true
  pub same_effect_lem : (v d : ℕ) → F v d ≡ true → L v d ≡ false → value_in (action_of t to).effects v ≡ value_in (action_of t a).effects v

pub record Closed (t : Task) (A : ℕ → Bool) (F L : ℕ → ℕ → Bool) : Type 0 where
  -- the goal is relevant
  pub goal_relevant : (v d : ℕ) → has_fact t.goal v d ≡ true → F v d ≡ true
  -- an action with an effect that is relevant and not linked is kept
  pub gains : (a v d : ℕ) → a < action_count t → value_in (action_of t a).effects v ≡ some d → F v d ≡ true → L v d ≡ false → A a ≡ true
  -- linked facts are start facts that no kept action changes
  pub linked_start : (v d : ℕ) → L v d ≡ true → start_of t v ≡ d
  pub linked_kept : (a v d e : ℕ) → L v d ≡ true → a < action_count t → A a ≡ true → value_in (action_of t a).effects v ≡ some e → e ≡ d
  -- each kept action has a stand-in
  pub stand_in : (a : ℕ) → a < action_count t → A a ≡ true → StandIn t A F L a

-- a list of kept actions
abbrev pub AllKept : (ℕ → Bool) → List ℕ → Type 0
AllKept A [] = Unit {0}
AllKept A (a ∷ plan) = (A a ≡ true) × AllKept A plan
