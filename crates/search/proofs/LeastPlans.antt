-- For every accepted task the entries of the table are least over all plans from their states, and the plan read off is
-- the first of all cheapest plans of fewest steps.
use Prim.Native.Nat.{ℕ, ◌-◌, ◌<◌}
use mathlib.Core.Path.{◌≡◌, refl, sym, ap, ap₂, subst, fun_ext, ◌∙◌}
use mathlib.Core.Bool.{true}
use mathlib.Core.List.{List, [], ◌∷◌}
use mathlib.Core.Option.{none, some, map}
use native.Mathlib.Omega.{arith}
use lib.ListN.{length, get_or, get_or-eq_default}
use Rattle.files.specs.Below.{tabulate}
use Rattle.files.specs.Task.{Variable, Task, variable, variable_count, action_of, size_of}
use Rattle.files.proofs.Logic.{split_option, split_le}
use Rattle.files.proofs.Tabulate.{tabulate_from_length, tabulate_entry}
use Rattle.files.proofs.Valid.{Valid, task_valid}
use Rattle.plans.specs.State.{State, start_state, apply}
use Rattle.plans.specs.Plan.{IsPlan, Total, add_step, total_of, at_most, Best, FirstBest}
use Rattle.plans.proofs.RunLaws.{Runs, runs_plan, plan_runs}
use Rattle.distances.specs.States.{state_count, state_at}
use Rattle.distances.specs.Table.{Distance, distances, start_number}
use Rattle.search.specs.FirstPlan.{steps_from, where_reached, first_plan}
use Rattle.search.specs.Least.{started_at, DistanceLeast, PlanFirst, SearchLeast, SearchIsLeast}
use Rattle.distances.proofs.Radix.{state_past, start_below, start_state_lem}
use Rattle.distances.proofs.DistanceLaws.{Le, le_at_most, at_most_le, le_antisym}
use Rattle.distances.proofs.Distances.{RunsFrom, to_states, to_numbers, distances_least, distances_none, distances_some, steps_few}
use Rattle.search.proofs.ReadOff.{Found, found, steps_length}

-- the task from another state on: its start state is that one, all else is as before
module _ (t : Task) (n : ℕ) where
  abbrev starts_at : ℕ → Variable
  starts_at v = variable (size_of t v) (state_at t.variables n v)

  started_value : (v : ℕ) → start_state (started_at t n) v ≡ state_at t.variables n v
  unfolding start_state started_at
  started_value v =
      split_le (variable_count t) v
      (λ l.
      ap (λ (x : Variable). x.start)
      (get_or-eq_default (tabulate (variable_count t) starts_at) (variable 0 0) (omega (arith, tabulate_from_length starts_at 0 (variable_count t))))
      ∙ sym (state_past t.variables n v l))
      (λ l. ap (λ (x : Variable). x.start) (tabulate_entry starts_at (variable_count t) v (variable 0 0) l))

  started_state : start_state (started_at t n) ≡ state_at t.variables n
  started_state = fun_ext started_value

  from_started : (s : State) (plan : List ℕ) → Runs (started_at t n) s plan → Runs t s plan
  unfolding started_at
  from_started s [] r = r
  from_started s (a ∷ plan) r = (r.0, r.1, from_started (apply (action_of t a) s) plan r.2)

  to_started : (s : State) (plan : List ℕ) → Runs t s plan → Runs (started_at t n) s plan
  unfolding started_at
  to_started s [] r = r
  to_started s (a ∷ plan) r = (r.0, r.1, to_started (apply (action_of t a) s) plan r.2)

  started_total : (plan : List ℕ) → total_of (started_at t n) plan ≡ total_of t plan
  unfolding started_at total_of
  started_total [] = refl
  started_total (a ∷ plan) = ap (add_step (action_of t a)) (started_total plan)

  started_plan : (plan : List ℕ) → IsPlan (started_at t n) plan → Runs t (state_at t.variables n) plan
  started_plan plan p = from_started _ plan (subst (λ (s : State). Runs (started_at t n) s plan) started_state (plan_runs (started_at t n) plan p))

  plan_started : (plan : List ℕ) → Runs t (state_at t.variables n) plan → IsPlan (started_at t n) plan
  plan_started plan r = runs_plan (started_at t n) plan (subst (λ (s : State). Runs (started_at t n) s plan) (sym started_state) (to_started _ plan r))

module _ (t : Task) (valid : Valid t) where
  -- a list that has the distance is no worse than any that runs
  least_of : (n : ℕ) (plan other : List ℕ) → n < state_count t.variables → get_or (distances t) n none ≡ some (total_of t plan) → RunsFrom t n other
      → at_most (total_of t plan) (total_of t other) ≡ true
  least_of n plan other l e r =
      le_at_most (total_of t plan) (total_of t other) (subst (λ (x : Distance). Le x (some (total_of t other))) e (distances_least t valid n other l r))

  entry_none : (n : ℕ) → n < state_count t.variables → get_or (distances t) n none ≡ none → DistanceLeast (started_at t n) none
  entry_none n l e plan p = distances_none t valid n l e plan (to_numbers t valid n plan (started_plan t n plan p))

  entry_some : (n : ℕ) (x : Total) → n < state_count t.variables → get_or (distances t) n none ≡ some x → DistanceLeast (started_at t n) (some x)
  entry_some n x l e =
      let w = distances_some t valid n x l e in
      let here : some (total_of t w.plan) ≡ some x = sym w.value ∙ e in
      let same_total : total_of t w.plan ≡ x = cc in (
        w.plan,
        record {
          is_plan = plan_started t n w.plan (to_states t valid n w.plan w.runs);
          least =
              λ other p.
              ap₂ at_most (started_total t n w.plan) (started_total t n other)
              ∙ least_of n w.plan other l w.value (to_numbers t valid n other (started_plan t n other p));
        },
        started_total t n w.plan ∙ same_total,
      )

  entry_least : (n : ℕ) → n < state_count t.variables → DistanceLeast (started_at t n) (get_or (distances t) n none)
  entry_least n l =
      split_option (get_or (distances t) n none)
      (λ e. subst (DistanceLeast (started_at t n)) (sym e) (entry_none n l e))
      (λ x e. subst (DistanceLeast (started_at t n)) (sym e) (entry_some n x l e))

  -- plans are the lists that run from the start's number
  plan_numbers_lem : (plan : List ℕ) → IsPlan t plan → RunsFrom t (start_number t) plan
  plan_numbers_lem plan p =
      to_numbers t valid (start_number t) plan (subst (λ (s : State). Runs t s plan) (sym (start_state_lem t valid)) (plan_runs t plan p))

  numbers_plan : (plan : List ℕ) → RunsFrom t (start_number t) plan → IsPlan t plan
  numbers_plan plan r = runs_plan t plan (subst (λ (s : State). Runs t s plan) (start_state_lem t valid) (to_states t valid (start_number t) plan r))

  found_best : (plan : List ℕ) → Found t (start_number t) plan → Best t plan
  found_best plan f =
      record {
        is_plan = numbers_plan plan f.runs;
        least = λ other p. least_of (start_number t) plan other (start_below t valid) f.value (plan_numbers_lem other p);
      }

  -- any other best plan has the distance too
  best_value : (plan other : List ℕ) → Found t (start_number t) plan → Best t other → get_or (distances t) (start_number t) none ≡ some (total_of t other)
  best_value plan other f b =
      le_antisym _ _
      (distances_least t valid (start_number t) other (start_below t valid) (plan_numbers_lem other b.is_plan))
      (subst (λ (x : Distance). Le (some (total_of t other)) x) (sym f.value) (at_most_le _ _ (b.least plan (numbers_plan plan f.runs))))

  found_first : (plan : List ℕ) → Found t (start_number t) plan → FirstBest t plan
  found_first plan f =
      record {
        best = found_best plan f;
        first = λ other b. f.first other (plan_numbers_lem other b.is_plan) (best_value plan other f b);
      }

-- what is read off at the start
abbrev pub steps_read : Task → List ℕ
steps_read t = steps_from t (distances t) (start_number t) (state_count t.variables - 1)

pub first_plan_none : (t : Task) → get_or (distances t) (start_number t) none ≡ none → first_plan t ≡ none
unfolding first_plan
first_plan_none t e = ap (λ (x : Distance). where_reached x (steps_read t)) e

pub first_plan_some : (t : Task) (x : Total) → get_or (distances t) (start_number t) none ≡ some x → first_plan t ≡ some (steps_read t)
unfolding first_plan
first_plan_some t x e = ap (λ (y : Distance). where_reached y (steps_read t)) e

module _ (t : Task) (valid : Valid t) where
  found_read : (x : Total) → get_or (distances t) (start_number t) none ≡ some x → Found t (start_number t) (steps_read t)
  found_read x e =
      found t valid (state_count t.variables - 1) (start_number t) x (start_below t valid) e (omega (arith, steps_few t valid (start_number t) x (start_below t valid) e))

  plan_first : PlanFirst t (first_plan t)
  plan_first =
      split_option (get_or (distances t) (start_number t) none)
      (λ e.
      subst (PlanFirst t) (sym (first_plan_none t e))
      (λ plan p. distances_none t valid (start_number t) (start_below t valid) e plan (plan_numbers_lem t valid plan p)))
      (λ x e.
      let length_read : length (steps_read t) ≡ x.steps = steps_length t valid (start_number t) x (start_below t valid) e in
      subst (PlanFirst t) (sym (first_plan_some t x e))
      (found_first t valid (steps_read t) (found_read x e), omega (arith, steps_few t valid (start_number t) x (start_below t valid) e)))

  plan_total : get_or (distances t) (start_number t) none ≡ map (total_of t) (first_plan t)
  plan_total =
      split_option (get_or (distances t) (start_number t) none)
      (λ e. e ∙ sym (ap (map (total_of t)) (first_plan_none t e)))
      (λ x e. (found_read x e).value ∙ sym (ap (map (total_of t)) (first_plan_some t x e)))

  pub search_least : SearchLeast t
  search_least = record { entries = entry_least t valid; plan = plan_first; total = plan_total }

pub search_is_least : SearchIsLeast
search_is_least t e = search_least t (task_valid t e)
