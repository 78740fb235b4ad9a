-- The relevance theorem: a closed marking loses no cheapest plan. Beside every plan stands one of kept actions alone that is
-- no worse, and strictly better unless the plan uses kept actions alone itself.
use Prim.Native.Nat.{ℕ, ◌<◌}
use mathlib.Core.Path.{◌≡◌, refl, sym, ap, ◌∙◌}
use mathlib.Core.Bool.{Bool, true, false}
use mathlib.Core.List.{List, [], ◌∷◌}
use mathlib.Core.Logic.{◌⊎◌, inl, inr, ⊎_elim}
use mathlib.Core.Option.{some}
use Rattle.files.specs.Task.{Pair, Task, action_count, action_of, value_in}
use Rattle.files.proofs.Logic.{clash, split, split_option}
use Rattle.plans.specs.State.{State, start_state, all_hold, has_fact, applicable, apply}
use Rattle.plans.specs.Plan.{IsPlan, total_of, at_most, Best}
use Rattle.plans.proofs.OrderLaws.{at_most_refl, at_most_trans, add_step_above, add_step_cheaper, add_step_cheaper_strict, add_step_drops}
use Rattle.plans.proofs.RunLaws.{Runs, runs_plan, plan_runs}
use Rattle.plans.proofs.StateLaws.{all_hold_carries, apply_sets, apply_leaves}
use Rattle.marking.proofs.Closed.{StandIn, Closed, AllKept}

-- a state r that has of s what is relevant, and every linked fact
record Follows (F L : ℕ → ℕ → Bool) (s r : State) : Type 0 where
  facts : (v d : ℕ) → F v d ≡ true → s v ≡ d → r v ≡ d
  links : (v d : ℕ) → L v d ≡ true → r v ≡ d

-- from r, a list of kept actions that reaches the goal beside the list p
pub record Beside (t : Task) (A : ℕ → Bool) (r : State) (p : List ℕ) : Type 0 where
  pub list : List ℕ
  pub runs : Runs t r list
  pub kept : AllKept A list
  pub no_worse : at_most (total_of t list) (total_of t p) ≡ true
  pub better : AllKept A p ⊎ (at_most (total_of t p) (total_of t list) ≡ false)

module _ (t : Task) (A : ℕ → Bool) (F L : ℕ → ℕ → Bool) (closed : Closed t A F L) where
  -- a kept action leaves the linked facts
  links_stay : (r : State) (a : ℕ) → a < action_count t → A a ≡ true → ((v d : ℕ) → L v d ≡ true → r v ≡ d) → (v d : ℕ) → L v d ≡ true → apply (action_of t a) r v ≡ d
  links_stay r a lt ka h v d l =
      split_option (value_in (action_of t a).effects v)
      (λ z. apply_leaves (action_of t a) r v z ∙ h v d l)
      (λ x z. apply_sets (action_of t a) r v x z ∙ closed.linked_kept a v d x l lt ka z)

  -- a kept action in s, its stand-in in r
  follows_kept : (s r : State) (a : ℕ) (k : StandIn t A F L a) → Follows F L s r → Follows F L (apply (action_of t a) s) (apply (action_of t k.to) r)
  follows_kept s r a k h =
      record {
        facts =
            λ v d f e.
            split (L v d)
            (λ l. links_stay r k.to k.known k.kept h.links v d l)
            (λ l.
            split_option (value_in (action_of t a).effects v)
            (λ z. apply_leaves (action_of t k.to) r v (k.same_effect_lem v d f l ∙ z) ∙ h.facts v d f (sym (apply_leaves (action_of t a) s v z) ∙ e))
            (λ x z. apply_sets (action_of t k.to) r v x (k.same_effect_lem v d f l ∙ z) ∙ sym (apply_sets (action_of t a) s v x z) ∙ e));
        links = links_stay r k.to k.known k.kept h.links;
      }

  -- an action that is not kept, and no step in r
  follows_dropped : (s r : State) (a : ℕ) → a < action_count t → A a ≡ false → Follows F L s r → Follows F L (apply (action_of t a) s) r
  follows_dropped s r a lt ka h =
      record {
        facts =
            λ v d f e.
            split (L v d)
            (λ l. h.links v d l)
            (λ l.
            split_option (value_in (action_of t a).effects v)
            (λ z. h.facts v d f (sym (apply_leaves (action_of t a) s v z) ∙ e))
            (λ x z. clash (closed.gains a v d lt (z ∙ ap some (sym (apply_sets (action_of t a) s v x z) ∙ e)) f l) ka));
        links = h.links;
      }

  -- conditions that admit only what is relevant hold in r where they hold in s
  follows_hold : (conditions : List Pair) (s r : State) → Follows F L s r → ((v d : ℕ) → has_fact conditions v d ≡ true → F v d ≡ true) → all_hold conditions s ≡ true → all_hold conditions r ≡ true
  follows_hold conditions s r h relevant e = all_hold_carries conditions s r e (λ v admitted. h.facts v (s v) (relevant v (s v) admitted) refl)

  beside_kept : (a : ℕ) (p : List ℕ) (r : State) (k : StandIn t A F L a) → A a ≡ true → applicable (action_of t k.to) r ≡ true → Beside t A (apply (action_of t k.to) r) p → Beside t A r (a ∷ p)
  unfolding total_of
  beside_kept a p r k ka h q =
      record {
        list = k.to ∷ q.list;
        runs = (k.known, h, q.runs);
        kept = (k.kept, q.kept);
        no_worse = add_step_cheaper (action_of t k.to) (action_of t a) (total_of t q.list) (total_of t p) k.no_dearer q.no_worse;
        better =
            ⊎_elim
            (λ x. inl (ka, x))
            (λ x. inr (add_step_cheaper_strict (action_of t k.to) (action_of t a) (total_of t q.list) (total_of t p) k.no_dearer x))
            q.better;
      }

  beside_dropped : (a : ℕ) (p : List ℕ) (r : State) → Beside t A r p → Beside t A r (a ∷ p)
  unfolding total_of
  beside_dropped a p r q =
      record {
        list = q.list;
        runs = q.runs;
        kept = q.kept;
        no_worse = at_most_trans (total_of t q.list) (total_of t p) (total_of t (a ∷ p)) q.no_worse (add_step_above (action_of t a) (total_of t p));
        better = inr (add_step_drops (action_of t a) (total_of t q.list) (total_of t p) q.no_worse);
      }

  simulated : (p : List ℕ) (s r : State) → Follows F L s r → Runs t s p → Beside t A r p
  unfolding applicable
  simulated [] s r h q =
      record {
        list = [];
        runs = follows_hold t.goal s r h closed.goal_relevant q;
        kept = tt;
        no_worse = at_most_refl (total_of t []);
        better = inl tt;
      }
  simulated (a ∷ p) s r h q =
      split (A a)
      (λ ka.
      let k = closed.stand_in a q.0 ka in
      beside_kept a p r k ka
      (follows_hold (action_of t k.to).conditions s r h k.asks_relevant (k.asks_less s q.1))
      (simulated p (apply (action_of t a) s) (apply (action_of t k.to) r) (follows_kept s r a k h) q.2))
      (λ ka. beside_dropped a p r (simulated p (apply (action_of t a) s) r (follows_dropped s r a q.0 ka h) q.2))

  -- beside every plan stands one of kept actions
  pub plan_beside : (p : List ℕ) → IsPlan t p → Beside t A (start_state t) p
  unfolding start_state
  plan_beside p q = simulated p (start_state t) (start_state t) (record { facts = λ v d f e. e; links = closed.linked_start }) (plan_runs t p q)

  -- a best plan uses kept actions alone
  pub best_kept : (p : List ℕ) → Best t p → AllKept A p
  best_kept p b =
      let k = plan_beside p b.is_plan in
      ⊎_elim
      (λ x. x)
      (λ x. clash (b.least k.list (runs_plan t k.list k.runs)) x)
      k.better

  -- and to be best it is enough to be no worse than the plans of kept actions
  pub best_among_kept : (p : List ℕ) → IsPlan t p → ((q : List ℕ) → IsPlan t q → AllKept A q → at_most (total_of t p) (total_of t q) ≡ true) → Best t p
  best_among_kept p h f =
      record {
        is_plan = h;
        least =
            λ q hq.
            let k = plan_beside q hq in
            at_most_trans (total_of t p) (total_of t k.list) (total_of t q) (f k.list (runs_plan t k.list k.runs) k.kept) k.no_worse;
      }
