-- A task with rising lists means what it meant before.
use Prim.Native.Nat.{ℕ, ◌+◌, ◌<◌}
use mathlib.Core.Path.{◌≡◌, refl, sym, ap, ◌∙◌}
use mathlib.Core.List.{List, [], ◌∷◌, map}
use mathlib.Core.Option
use mathlib.Core.Option.{Option}
use native.Mathlib.Omega.{arith}
use lib.ListN.{length, get_or, length-map, get_or-map}
use Rattle.files.specs.Task.{Variable, Action, Task, variable, action, variable_count, action_count, action_of}
use Rattle.plans.specs.Plan.{IsPlan, step_of, add_step, total_of}
use Rattle.plans.specs.State.{State, start_state, all_hold, applicable, apply}
use Rattle.translator.specs.Stated.{ordered_action, ordered, Means}
use Rattle.translator.proofs.OrderLaws.{Apart, order_empty, order_values, order_holds}

-- what decides on plans
record Alike (t u : Task) : Type 0 where
  variables : t.variables ≡ u.variables
  goal : (s : State) → all_hold t.goal s ≡ all_hold u.goal s
  actions : action_count t ≡ action_count u
  applies : (a : ℕ) → a < action_count t → (s : State) → applicable (action_of t a) s ≡ applicable (action_of u a) s
  leads : (a : ℕ) → a < action_count t → (s : State) (v : ℕ) → apply (action_of t a) s v ≡ apply (action_of u a) s v

alike_back : (t u : Task) → Alike t u → Alike u t
alike_back t u same =
    let count : action_count t ≡ action_count u = same.actions in
    record {
      variables = sym same.variables;
      goal = λ s. sym (same.goal s);
      actions = sym count;
      applies = λ a h s. sym (same.applies a (omega arith) s);
      leads = λ a h s v. sym (same.leads a (omega arith) s v);
    }

alike_plan : (t u : Task) → Alike t u → (plan : List ℕ) → IsPlan t plan → IsPlan u plan
unfolding start_state
alike_plan t u same plan p =
    record {
      states = p.states;
      starts = p.starts ∙ ap (λ (vs : List Variable). λ (v : ℕ). (get_or vs v (variable 0 0)).start) same.variables;
      numbers = λ i h. omega (arith, p.numbers i h, same.actions);
      applies = λ i h. sym (same.applies (step_of plan i) (p.numbers i h) (p.states i)) ∙ p.applies i h;
      leads = λ i h. p.leads i h ∙ (λ j v. same.leads (step_of plan i) (p.numbers i h) (p.states i) v j);
      reaches = sym (same.goal (p.states (length plan))) ∙ p.reaches;
    }

total_same : (t u : Task) → ((a : ℕ) → (action_of t a).cost ≡ (action_of u a).cost) → (plan : List ℕ) → total_of t plan ≡ total_of u plan
unfolding total_of add_step
total_same t u same [] = refl
total_same t u same (a ∷ plan) =
    let rest : total_of t plan ≡ total_of u plan = total_same t u same plan in
    let cost : (action_of t a).cost ≡ (action_of u a).cost = same a in
    λ i. record { minutes = cost i + (rest i).minutes; steps = (rest i).steps + 1 }

module _ (t : Task) where
  pub action_ordered : (a : ℕ) → action_of (ordered t) a ≡ ordered_action (variable_count t) (action_of t a)
  unfolding ordered ordered_action
  action_ordered a =
      let n : ℕ = variable_count t in
      let empty : action 0 [] [] ≡ ordered_action n (action 0 [] []) = λ i. action 0 (sym (order_empty 0 n) i) (sym (order_empty 0 n) i) in
      ap (get_or (map (ordered_action n) t.actions) a) empty ∙ get_or-map (ordered_action n) t.actions a (action 0 [] [])

  cost_ordered : (a : ℕ) → (action_of t a).cost ≡ (action_of (ordered t) a).cost
  unfolding ordered_action
  cost_ordered a = sym (ap (λ (b : Action). b.cost) (action_ordered a))

  module _ (goal : Apart (variable_count t) t.goal)
      (conditions : (a : ℕ) → a < action_count t → Apart (variable_count t) (action_of t a).conditions)
      (effects : (a : ℕ) → a < action_count t → Apart (variable_count t) (action_of t a).effects) where
    alike_ordered : Alike t (ordered t)
    unfolding ordered ordered_action applicable apply
    alike_ordered =
        let n : ℕ = variable_count t in
        record {
          variables = refl;
          goal = λ s. sym (order_holds n t.goal s goal);
          actions = sym (length-map t.actions (ordered_action n));
          applies = λ a h s. sym (ap (λ (b : Action). applicable b s) (action_ordered a) ∙ order_holds n (action_of t a).conditions s (conditions a h));
          leads = λ a h s v.
              sym (ap (λ (b : Action). apply b s v) (action_ordered a) ∙ ap (λ (o : Option ℕ). Option.get_or o (s v)) (order_values (action_of t a).effects n v (effects a h)));
        }

    pub ordered_means : Means t (ordered t)
    ordered_means =
        let same : Alike t (ordered t) = alike_ordered in
        record {
          variables = same.variables;
          goal = same.goal;
          actions = same.actions;
          applies = same.applies;
          leads = same.leads;
          costs = cost_ordered;
          plans = alike_plan t (ordered t) same;
          back = alike_plan (ordered t) t (alike_back t (ordered t) same);
          total = total_same t (ordered t) cost_ordered;
        }
