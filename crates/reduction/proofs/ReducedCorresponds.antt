-- The reduced task does with kept actions what the task does: states are alike in the values of kept variables.
use Prim.Native.Nat.{ℕ, ◌<◌}
use mathlib.Core.Path.{◌≡◌, refl, sym, ap, ap₂, ◌∙◌}
use mathlib.Core.Bool.{Bool, true, false, ◌&&◌}
use mathlib.Core.List.{List, [], ◌∷◌}
use mathlib.Core.Option.{map}
use Rattle.files.specs.Task.{Pair, Action, Task, variable_count, action_count, action_of, start_of, value_in}
use Rattle.files.proofs.Logic.{split, split_option}
use Rattle.files.proofs.Valid.{Valid}
use Rattle.plans.specs.State.{State, start_state, admits, holds, all_hold, applicable, apply}
use Rattle.plans.proofs.FactLaws.{fact_later}
use Rattle.plans.proofs.StateLaws.{apply_sets, apply_leaves}
use Rattle.reduction.specs.Named.{settled, kept_variable}
use Rattle.reduction.specs.Renumber.{new_variable, new_value}
use Rattle.reduction.specs.ReducedBy.{reduced_pairs, reduced_action, reduced_by}
use Rattle.reduction.proofs.KeptFacts.{NamedFacts, reduced_pair, reduced_value, settled_start, goal_named, conditions_named, first_known, reduced_pair_admits, dropped_admits}
use Rattle.reduction.proofs.KeptVariables.{reduced_start}
use Rattle.reduction.proofs.KeptActions.{reduced_chooses}
use Rattle.reduction.proofs.Correspondence.{Corresponds, Alike, alike_corresponds}

module _ (t : Task) (A : ℕ → Bool) (ok : Valid t) where
  -- r is the reduced form of the state s, which has its start value at each settled variable
  record Reduces (s r : State) : Type 0 where
    on_kept : (v : ℕ) → v < variable_count t → kept_variable t A v ≡ true → r (new_variable t A v) ≡ new_value t A v (s v)
    on_settled : (v : ℕ) → settled t A v ≡ true → s v ≡ start_of t v

  start_reduces : Reduces (start_state t) (start_state (reduced_by t A))
  unfolding start_state
  start_reduces = record { on_kept = reduced_start t A; on_settled = λ v e. refl }

  -- the same conditions hold, one by one
  reduced_pair_holds : (s r : State) → Reduces s r → (p : Pair) (ps : List Pair) → NamedFacts t A (p ∷ ps) → kept_variable t A p.variable ≡ true → holds (reduced_pair t A p) r ≡ holds p s
  unfolding holds
  reduced_pair_holds s r same p ps n k =
      ap (admits (reduced_pair t A p)) (same.on_kept p.variable (first_known t A p ps n) k) ∙ reduced_pair_admits t A p ps n (s p.variable)

  dropped_holds : (s r : State) → Reduces s r → (p : Pair) (ps : List Pair) → NamedFacts t A (p ∷ ps) → kept_variable t A p.variable ≡ false → holds p s ≡ true
  unfolding holds
  dropped_holds s r same p ps n k =
      let start = dropped_admits t A p ps n k in ap (admits p) (same.on_settled p.variable start.0) ∙ start.1

  hold_same : (s r : State) → Reduces s r → (pairs : List Pair) → NamedFacts t A pairs → all_hold (reduced_pairs t A pairs) r ≡ all_hold pairs s
  unfolding all_hold reduced_pairs
  hold_same s r same [] n = refl
  hold_same s r same (p ∷ ps) n =
      let later = hold_same s r same ps (λ v value f. n v value (fact_later p ps v value f)) in
      split (kept_variable t A p.variable)
      (λ k. rw k (ap₂ ◌&&◌ (reduced_pair_holds s r same p ps n k) later))
      (λ k. rw (k, dropped_holds s r same p ps n k) later)

  -- the states after a kept action
  reduced_action_value : (a : Action) (v : ℕ) → kept_variable t A v ≡ true → value_in (reduced_action t A a).effects (new_variable t A v) ≡ map (new_value t A v) (value_in a.effects v)
  unfolding reduced_action
  reduced_action_value a v k = reduced_value t A a.effects v k

  step_reduces : (s r : State) → Reduces s r → (a : ℕ) → a < action_count t → A a ≡ true → Reduces (apply (action_of t a) s) (apply (reduced_action t A (action_of t a)) r)
  step_reduces s r same a known kept = record { on_kept = on_kept; on_settled = on_settled }
    where
      on_kept : (v : ℕ) → v < variable_count t → kept_variable t A v ≡ true → apply (reduced_action t A (action_of t a)) r (new_variable t A v) ≡ new_value t A v (apply (action_of t a) s v)
      on_kept v h k =
          let reduced = reduced_action t A (action_of t a) in
          split_option (value_in (action_of t a).effects v)
          (λ e.
          apply_leaves reduced r (new_variable t A v) (reduced_action_value (action_of t a) v k ∙ ap (map (new_value t A v)) e)
          ∙ same.on_kept v h k
          ∙ ap (new_value t A v) (sym (apply_leaves (action_of t a) s v e)))
          (λ x e.
          apply_sets reduced r (new_variable t A v) (new_value t A v x) (reduced_action_value (action_of t a) v k ∙ ap (map (new_value t A v)) e)
          ∙ ap (new_value t A v) (sym (apply_sets (action_of t a) s v x e)))

      on_settled : (v : ℕ) → settled t A v ≡ true → apply (action_of t a) s v ≡ start_of t v
      on_settled v e =
          split_option (value_in (action_of t a).effects v)
          (λ q. apply_leaves (action_of t a) s v q ∙ same.on_settled v e)
          (λ x q. apply_sets (action_of t a) s v x q ∙ settled_start t A a v x e known kept q)

  applicable_same : (s r : State) → Reduces s r → (a : ℕ) → a < action_count t → A a ≡ true → applicable (reduced_action t A (action_of t a)) r ≡ applicable (action_of t a) s
  unfolding applicable reduced_action
  applicable_same s r same a known kept = hold_same s r same (action_of t a).conditions (conditions_named t A ok a known kept)

  goal_same : (s r : State) → Reduces s r → all_hold (reduced_by t A).goal r ≡ all_hold t.goal s
  unfolding reduced_by
  goal_same s r same = hold_same s r same t.goal (goal_named t A ok)

  reduced_action_cost : (a : Action) → (reduced_action t A a).cost ≡ a.cost
  unfolding reduced_action
  reduced_action_cost a = refl

  reduced_alike : Alike t (reduced_by t A) A (reduced_action t A) Reduces
  reduced_alike =
      record {
        chooses = reduced_chooses t A;
        start = start_reduces;
        goal = goal_same;
        applies = applicable_same;
        step = step_reduces;
        cost = reduced_action_cost;
      }

  pub reduced_corresponds : Corresponds t (reduced_by t A) A
  reduced_corresponds = alike_corresponds t (reduced_by t A) A (reduced_action t A) Reduces reduced_alike
