-- Two tasks whose actions correspond, one's being chosen ones of the other's: plans of chosen actions and plans of the
-- one are the same, by new and by original numbers.
use Prim.Native.Nat.{ℕ, ◌+◌, ◌<◌}
use mathlib.Core.Path.{◌≡◌, refl, sym, ap, ap₂, subst, subst⁻¹, ◌∙◌}
use mathlib.Core.Bool.{Bool, true}
use mathlib.Core.List.{List, [], ◌∷◌, map}
use mathlib.Core.Logic.{⊎_elim}
use lib.Dec.{eqb, ltb}
use borrow.Author.Tests.{ltb-true, lt-ltb, eqb-true, eq-eqb}
use Rattle.files.specs.Task.{Action, Task, action_count, action_of}
use Rattle.files.proofs.Logic.{and_split, and_join, or_split, or_left, or_right}
use Rattle.plans.specs.State.{State, start_state, all_hold, applicable, apply}
use Rattle.plans.specs.Plan.{IsPlan, Total, add_step, total_of, not_after}
use Rattle.plans.proofs.RunLaws.{Runs, runs_plan, plan_runs}
use Rattle.marking.proofs.Closed.{AllKept}
use Rattle.reduction.proofs.KeptActions.{original_of, reduced_of, Chooses, reduced_known, original_reduced, original_known, original_kept, original_rises, chosen_action, kept_action}

-- the plans of u are the plans of t whose actions A keeps
pub record Corresponds (t u : Task) (A : ℕ → Bool) : Type 0 where
  pub back : (q : List ℕ) → IsPlan u q → IsPlan t (map (original_of t A) q)
  pub there : (p : List ℕ) → IsPlan t p → AllKept A p → IsPlan u (map (reduced_of A) p)
  pub total : (q : List ℕ) → IsPlan u q → total_of t (map (original_of t A) q) ≡ total_of u q
  pub there_back : (p : List ℕ) → IsPlan t p → AllKept A p → map (original_of t A) (map (reduced_of A) p) ≡ p
  pub order : (p q : List ℕ) → IsPlan u p → IsPlan u q → not_after p q ≡ true → not_after (map (original_of t A) p) (map (original_of t A) q) ≡ true

-- u does with the chosen actions what t does with them, from states that are alike
pub record Alike (t u : Task) (A : ℕ → Bool) (f : Action → Action) (Like : State → State → Type 0) : Type 0 where
  pub chooses : Chooses t u A f
  pub start : Like (start_state t) (start_state u)
  pub goal : (s r : State) → Like s r → all_hold u.goal r ≡ all_hold t.goal s
  pub applies : (s r : State) → Like s r → (a : ℕ) → a < action_count t → A a ≡ true → applicable (f (action_of t a)) r ≡ applicable (action_of t a) s
  pub step : (s r : State) → Like s r → (a : ℕ) → a < action_count t → A a ≡ true → Like (apply (action_of t a) s) (apply (f (action_of t a)) r)
  pub cost : (a : Action) → (f a).cost ≡ a.cost

-- a step counts by its cost alone
add_step_cost : (a b : Action) (total : Total) → a.cost ≡ b.cost → add_step a total ≡ add_step b total
unfolding add_step
add_step_cost a b total e = λ i. record { minutes = e i + total.minutes; steps = total.steps + 1 }

module _ (t u : Task) (A : ℕ → Bool) (f : Action → Action) (Like : State → State → Type 0) (same : Alike t u A f Like) where
  runs_to : (s r : State) → Like s r → (p : List ℕ) → Runs t s p → AllKept A p → Runs u r (map (reduced_of A) p)
  runs_to s r like [] h k = same.goal s r like ∙ h
  runs_to s r like (a ∷ p) h k =
      let e = kept_action same.chooses a h.0 k.0 in (
        reduced_known same.chooses a h.0 k.0,
        subst⁻¹ (λ (x : Action). applicable x r ≡ true) e (same.applies s r like a h.0 k.0 ∙ h.1),
        subst⁻¹ (λ (x : Action). Runs u (apply x r) (map (reduced_of A) p)) e
            (runs_to (apply (action_of t a) s) (apply (f (action_of t a)) r) (same.step s r like a h.0 k.0) p h.2 k.1),
      )

  runs_from : (s r : State) → Like s r → (p : List ℕ) → Runs u r p → Runs t s (map (original_of t A) p)
  runs_from s r like [] h = sym (same.goal s r like) ∙ h
  runs_from s r like (i ∷ p) h =
      let a = original_of t A i in
      let known = original_known same.chooses i h.0 in
      let kept = original_kept same.chooses i h.0 in
      let e = chosen_action same.chooses i h.0 in (
        known,
        sym (same.applies s r like a known kept) ∙ subst (λ (x : Action). applicable x r ≡ true) e h.1,
        runs_from (apply (action_of t a) s) (apply (f (action_of t a)) r) (same.step s r like a known kept) p
            (subst (λ (x : Action). Runs u (apply x r) p) e h.2),
      )

  -- an action costs the same
  original_cost : (i : ℕ) → i < action_count u → (action_of t (original_of t A i)).cost ≡ (action_of u i).cost
  original_cost i h = sym (ap (λ (x : Action). x.cost) (chosen_action same.chooses i h) ∙ same.cost (action_of t (original_of t A i)))

  runs_total : (r : State) (p : List ℕ) → Runs u r p → total_of t (map (original_of t A) p) ≡ total_of u p
  unfolding total_of
  runs_total r [] h = refl
  runs_total r (i ∷ p) h =
      let old = action_of t (original_of t A i) in
      ap (add_step old) (runs_total (apply (action_of u i) r) p h.2) ∙ add_step_cost old (action_of u i) (total_of u p) (original_cost i h.0)

  runs_back : (s : State) (p : List ℕ) → Runs t s p → AllKept A p → map (original_of t A) (map (reduced_of A) p) ≡ p
  runs_back s [] h k = refl
  runs_back s (a ∷ p) h k =
      ap₂ (λ (x : ℕ) (xs : List ℕ). x ∷ xs) (original_reduced same.chooses a h.0 k.0) (runs_back (apply (action_of t a) s) p h.2 k.1)

  -- original numbers rise with new ones
  runs_order : (p q : List ℕ) (s r : State) → Runs u s p → Runs u r q → not_after p q ≡ true → not_after (map (original_of t A) p) (map (original_of t A) q) ≡ true
  unfolding not_after
  runs_order [] q s r hp hq h = refl
  runs_order (a ∷ p) [] s r hp hq h = h
  runs_order (a ∷ p) (b ∷ q) s r hp hq h =
      ⊎_elim
      (λ less. or_left _ (lt-ltb (original_of t A a) (original_of t A b) (original_rises same.chooses a b (ltb-true a b less) hq.0)))
      (λ alike.
      let both = and_split (eqb a b) (not_after p q) alike in
      or_right (ltb (original_of t A a) (original_of t A b))
      (and_join (eq-eqb (original_of t A a) (original_of t A b) (ap (original_of t A) (eqb-true a b both.0)))
      (runs_order p q (apply (action_of u a) s) (apply (action_of u b) r) hp.2 hq.2 both.1)))
      (or_split (ltb a b) _ h)

  pub alike_corresponds : Corresponds t u A
  alike_corresponds =
      record {
        back = λ q h. runs_plan t (map (original_of t A) q) (runs_from (start_state t) (start_state u) same.start q (plan_runs u q h));
        there = λ p h k. runs_plan u (map (reduced_of A) p) (runs_to (start_state t) (start_state u) same.start p (plan_runs t p h) k);
        total = λ q h. runs_total (start_state u) q (plan_runs u q h);
        there_back = λ p h k. runs_back (start_state t) p (plan_runs t p h) k;
        order = λ p q hp hq h. runs_order p q (start_state u) (start_state u) (plan_runs u p hp) (plan_runs u q hq) h;
      }
