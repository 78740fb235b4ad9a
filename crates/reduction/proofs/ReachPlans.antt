-- Plans use reached actions alone: each value along a plan is a reached fact of its variable.
use Prim.Native.Nat.{ℕ, zero, suc, ◌+◌, ◌<◌}
use mathlib.Core.Path.{◌≡◌, refl, sym, ◌∙◌}
use mathlib.Core.Bool.{Bool, true}
use mathlib.Core.List.{List, [], ◌∷◌}
use native.Mathlib.Omega.{arith}
use lib.Dec.{eqb}
use lib.ListN.{length}
use borrow.Author.Tests.{eq-eqb}
use Rattle.files.specs.Accepted.{accepted_task, valid_pairs}
use Rattle.files.specs.Below.{all_of}
use Rattle.files.specs.Task.{Pair, Task, variable_count, action_count, action_of, size_of, start_of, value_in}
use Rattle.files.proofs.BelowLaws.{any_below_intro}
use Rattle.files.proofs.Done.{facts}
use Rattle.files.proofs.Logic.{split_option, and_split, and_join, or_left, or_right}
use Rattle.files.proofs.Valid.{Valid, value_valid, task_valid}
use Rattle.plans.specs.Plan.{step_of}
use Rattle.plans.specs.State.{State, start_state, holds, all_hold, has_fact, applicable, apply}
use Rattle.plans.proofs.FactLaws.{fact_values, value_fact}
use Rattle.plans.proofs.RunLaws.{Runs, plan_runs}
use Rattle.plans.proofs.StateLaws.{apply_sets, apply_leaves}
use Rattle.marking.proofs.Closed.{AllKept}
use Rattle.reduction.specs.Reach.{sets, fact_reached, condition_reached, action_reached, reached}
use Rattle.reduction.specs.TurnsRight.{ReachedRight}
use Rattle.reduction.proofs.ReachLaws.{reached_closed, reached_least}

-- the facts that effects set
pub sets_fact : (ps : List Pair) (v value : ℕ) → sets ps v value ≡ has_fact ps v value
unfolding sets
sets_fact ps v value = sym (fact_values ps v value)

module _ (t : Task) where
  -- start facts are reached, and effects of reached actions
  pub start_reached : (R : ℕ → Bool) (v value : ℕ) → value ≡ start_of t v → fact_reached t R v value ≡ true
  unfolding fact_reached
  start_reached R v value e = or_left _ (eq-eqb value (start_of t v) e)

  pub effect_reached : (R : ℕ → Bool) (a v value : ℕ) → a < action_count t → R a ≡ true → sets (action_of t a).effects v value ≡ true → fact_reached t R v value ≡ true
  unfolding fact_reached
  effect_reached R a v value l r e = or_right (eqb value (start_of t v)) (any_below_intro (action_count t) _ a l (and_join r e))

  -- every value of the state is a reached fact of the task
  abbrev Within : State → Type 0
  Within s = (v : ℕ) → v < variable_count t → (s v < size_of t v) × (fact_reached t (reached t) v (s v) ≡ true)

  condition_holds : (s : State) → Within s → (c : Pair) → c.variable < variable_count t → holds c s ≡ true → condition_reached t (reached t) c ≡ true
  unfolding condition_reached holds
  condition_holds s w c l e =
      let here = w c.variable l in
      any_below_intro (size_of t c.variable) _ (s c.variable) here.0 (and_join e here.1)

  conditions_hold : (s : State) → Within s → (low : ℕ) (cs : List Pair) → valid_pairs t low cs ≡ true → all_hold cs s ≡ true → all_of (condition_reached t (reached t)) cs ≡ true
  unfolding valid_pairs all_hold
  conditions_hold s w low [] h e = refl
  conditions_hold s w low (c ∷ cs) h e =
      let valid = simp facts at h in
      let both = and_split (holds c s) (all_hold cs s) e in
      and_join (condition_holds s w c valid.1.0 both.0) (conditions_hold s w (c.variable + 1) cs valid.1.1.1 both.1)

  module _ (valid : Valid t) where
    start_within : Within (start_state t)
    unfolding start_state
    start_within v l = (valid.start v l, start_reached (reached t) v (start_of t v) refl)

    -- an action that is applicable there is reached, and leads to such a state
    step_reached : (s : State) → Within s → (a : ℕ) → a < action_count t → applicable (action_of t a) s ≡ true → reached t a ≡ true
    unfolding applicable action_reached
    step_reached s w a l e =
        reached_closed t a l (conditions_hold s w 0 (action_of t a).conditions (valid.action a).conditions e)

    step_within : (s : State) → Within s → (a : ℕ) → a < action_count t → reached t a ≡ true → Within (apply (action_of t a) s)
    step_within s w a l r v k =
        split_option (value_in (action_of t a).effects v)
        (λ e. rw (apply_leaves (action_of t a) s v e) (w v k))
        (λ value e.
        rw (apply_sets (action_of t a) s v value e) (
          (value_valid t 0 (action_of t a).effects v value (valid.action a).effects e).inside,
          effect_reached (reached t) a v value l r (sets_fact (action_of t a).effects v value ∙ value_fact (action_of t a).effects v value e),
        ))

    runs_reached : (s : State) → Within s → (p : List ℕ) → Runs t s p → AllKept (reached t) p
    runs_reached s w [] r = tt
    runs_reached s w (a ∷ p) r =
        let here = step_reached s w a r.0 r.1 in
        (here, runs_reached (apply (action_of t a) s) (step_within s w a r.0 here) p r.2)

    -- so every plan uses reached actions alone
    pub plan_reached : (p : List ℕ) → Runs t (start_state t) p → AllKept (reached t) p
    plan_reached p r = runs_reached (start_state t) start_within p r

kept_step : (A : ℕ → Bool) (p : List ℕ) → AllKept A p → (i : ℕ) → i < length p → A (step_of p i) ≡ true
kept_step A [] k i l = absurd (omega arith)
kept_step A (a ∷ p) k zero l = k.0
kept_step A (a ∷ p) k (suc i) l = kept_step A p k.1 i (omega arith)

-- what is promised of reach
pub reached_right : (t : Task) → accepted_task t ≡ true → ReachedRight t
reached_right t h =
    record {
      closed = reached_closed t;
      least = reached_least t;
      plans = λ p is. kept_step (reached t) p (plan_reached t (task_valid t h) p (plan_runs t p is));
    }
