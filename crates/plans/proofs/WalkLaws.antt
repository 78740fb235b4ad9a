-- The checker's walk: before each step what is left to check, and what is left to add up, is what the whole plan asks.
use Prim.Native.Nat.{ℕ, ◌+◌, ◌≤◌, ◌<◌}
use mathlib.Core.Path.{◌≡◌, refl, sym, ap, ap₂, fun_ext, ◌∙◌}
use mathlib.Core.Bool.{Bool, true, false, cond}
use mathlib.Core.List.{List, [], ◌∷◌}
use native.Mathlib.Omega.{arith}
use native.Mathlib.Numerals.{add-one}
use lib.ListN.{length, get_or, drop, drop_of_length-le, get_or-eq_default}
use lib.Seq.{drop-cons}
use Rattle.files.specs.Outcome.{Outcome, done, refusal, refused, is_done, guard}
use Rattle.files.specs.declared.refusals.Refusal.{Refusal}
use Rattle.std.specs.Prelude.{Ok, Err}
use Rattle.files.specs.Below.{tabulate}
use Rattle.files.specs.Task.{Pair, Variable, Action, Task, variable, action_of}
use Rattle.files.specs.Dense.{row_variable, row_action, held}
use Rattle.files.proofs.HeldTask.{held_action}
use Rattle.files.specs.declared.arrays.Arrays.{Arrays}
use Rattle.files.proofs.Guards.{guard_passes, guard_refuses, refused_stands}
use Rattle.files.proofs.Logic.{split_le}
use Rattle.files.proofs.Tabulate.{tabulate_entry, tabulate_from_length}
use Rattle.plans.proofs.OrderLaws.{total_steps}
use Rattle.plans.specs.State.{State, start_state, all_hold, applicable, apply}
use Rattle.plans.specs.Plan.{Total, no_steps, add_step, total_of, step_of}
use Rattle.plans.specs.Check.{Checked, take_steps, with_total, checked_of, answer, walk_answer}
use Rattle.plans.specs.declared.PlanTotal.{PlanTotal}
use Rattle.plans.proofs.CheckLaws.{answer_refused}
use Rattle.plans.specs.Tally.{list_state, row_of, state_of, total_in, end_answer}
use Rattle.plans.specs.declared.tally.Row.{Row}
use Rattle.plans.specs.declared.tally.Tally.{Tally}

-- the start state of the task that arrays hold, by its cells
pub held_start : (d : Arrays) (values : List ℕ)
    → ((v : ℕ) → v < d.variables → get_or values v 0 ≡ get_or d.starts v 0)
    → ((v : ℕ) → d.variables ≤ v → get_or values v 0 ≡ 0)
    → list_state values ≡ start_state (held d)
unfolding list_state start_state held row_variable
held_start d values inside behind =
    fun_ext
    (λ v.
    split_le d.variables v
    (λ l.
    behind v l
    ∙ sym (ap (λ (x : Variable). x.start) (get_or-eq_default (tabulate d.variables (row_variable d.sizes d.starts)) (variable 0 0) (omega (arith, tabulate_from_length (row_variable d.sizes d.starts) 0 d.variables)))))
    (λ l.
    inside v l
    ∙ sym (ap (λ (x : Variable). x.start) (tabulate_entry (row_variable d.sizes d.starts) d.variables v (variable 0 0) l))))

-- the row of a step's action is the task's action of that step
pub step_is : (d : Arrays) (plan : List ℕ) (i : ℕ) → step_of plan i < d.actions → (row : Row) (a : ℕ) → row_of row ≡ row_action d.variables d.costs d.conditions d.effects a
    → a ≡ step_of plan i → action_of (held d) (step_of plan i) ≡ row_of row
step_is d plan i h row a e f =
    held_action d (step_of plan i) h ∙ ap (row_action d.variables d.costs d.conditions d.effects) (sym f) ∙ sym e

-- before step i, with the tally so far
pub record Walking (t : Task) (plan : List ℕ) (tally : Tally) (i : ℕ) : Type 0 where
  pub checks : take_steps t (state_of tally) i (drop i plan) ≡ take_steps t (start_state t) 0 plan
  pub minutes : (total_in tally).minutes + (total_of t (drop i plan)).minutes ≡ (total_of t plan).minutes
  pub steps : (total_in tally).steps ≡ i

module _ (t : Task) (plan : List ℕ) where
  pub walking_begins : (tally : Tally) → state_of tally ≡ start_state t → total_in tally ≡ no_steps → Walking t plan tally 0
  unfolding no_steps
  walking_begins tally s z =
      record {
        checks = ap (λ (x : State). take_steps t x 0 plan) s;
        minutes = omega (arith, ap (λ (x : Total). x.minutes) z);
        steps = ap (λ (x : Total). x.steps) z;
      }

  -- the step that is due
  module _ (tally : Tally) (i : ℕ) (w : Walking t plan tally i) (h : i < length plan) (due : Action) (is : action_of t (step_of plan i) ≡ due) where
    rest : drop i plan ≡ step_of plan i ∷ drop (i + 1) plan
    rest = drop-cons plan i 0 h ∙ ap (λ (n : ℕ). step_of plan i ∷ drop n plan) (sym (add-one i))

    walk_step : take_steps t (state_of tally) i (drop i plan) ≡ guard (applicable due (state_of tally)) 22 i (take_steps t (apply due (state_of tally)) (i + 1) (drop (i + 1) plan))
    unfolding take_steps
    walk_step =
        ap (take_steps t (state_of tally) i) rest
        ∙ ap (λ (a : Action). guard (applicable a (state_of tally)) 22 i (take_steps t (apply a (state_of tally)) (i + 1) (drop (i + 1) plan))) is

    pub walking_next : (next : Tally) → applicable due (state_of tally) ≡ true → state_of next ≡ apply due (state_of tally) → total_in next ≡ add_step due (total_in tally) → Walking t plan next (i + 1)
    unfolding total_of add_step
    walking_next next e s z =
        let total : (total_of t (drop i plan)).minutes ≡ due.cost + (total_of t (drop (i + 1) plan)).minutes =
        ap (λ (l : List ℕ). (total_of t l).minutes) rest ∙ ap (λ (a : Action). a.cost + (total_of t (drop (i + 1) plan)).minutes) is in
        record {
          checks =
              ap (λ (x : State). take_steps t x (i + 1) (drop (i + 1) plan)) s
              ∙ guard_passes (applicable due (state_of tally)) 22 i _ _ e refl
              ∙ sym walk_step
              ∙ w.checks;
          minutes = omega (arith, ap (λ (x : Total). x.minutes) z, total, w.minutes);
          steps = omega (arith, ap (λ (x : Total). x.steps) z, w.steps);
        }

    pub walking_stops : (r : Refusal) → applicable due (state_of tally) ≡ false → refused r ≡ refusal 22 i → checked_of (Err r) ≡ walk_answer t plan
    unfolding walk_answer
    walking_stops r e f =
        let stops : refused r ≡ take_steps t (start_state t) 0 plan = guard_refuses (applicable due (state_of tally)) 22 i _ (refused r) e f ∙ sym walk_step ∙ w.checks in
        answer_refused r t plan ∙ ap (λ (o : Outcome). answer o t plan) stops

  -- after the last step
  pub walking_ends : (tally : Tally) (i : ℕ) (goal : List Pair) → Walking t plan tally i → length plan ≤ i → i ≤ length plan → t.goal ≡ goal → end_answer tally goal ≡ walk_answer t plan
  unfolding walk_answer answer end_answer take_steps total_of total_in no_steps
  walking_ends tally i goal w h k g =
      let none : drop i plan ≡ [] = drop_of_length-le plan h in
      let outcome : guard (all_hold goal (state_of tally)) 23 tally.steps.0 done ≡ take_steps t (start_state t) 0 plan =
      ap₂ (λ (l : List Pair) (n : ℕ). guard (all_hold l (state_of tally)) 23 n done) (sym g) w.steps ∙ sym (ap (take_steps t (state_of tally) i) none) ∙ w.checks in
      let minutes : (total_in tally).minutes ≡ (total_of t plan).minutes = omega (arith, w.minutes, ap (λ (l : List ℕ). (total_of t l).minutes) none) in
      let steps : (total_in tally).steps ≡ (total_of t plan).steps = omega (arith, w.steps, total_steps t plan) in
      ap₂ (λ (o : Outcome) (x : Total). with_total o (cond (is_done o) x no_steps)) outcome (λ j. record { minutes = minutes j; steps = steps j })

-- the last answer, from the test of the goal
module _ (tally : Tally) (goal : List Pair) where
  abbrev given : Outcome → Checked
  given o = with_total o (cond (is_done o) (total_in tally) no_steps)

  pub end_refuses : (r : Refusal) → all_hold goal (state_of tally) ≡ false → refused r ≡ refusal 23 tally.steps.0 → checked_of (Err r) ≡ end_answer tally goal
  unfolding end_answer
  end_refuses r e f =
      ap (λ (b : Bool). with_total (refused r) (cond b (total_in tally) no_steps)) (sym (refused_stands r))
      ∙ ap given (guard_refuses (all_hold goal (state_of tally)) 23 tally.steps.0 done (refused r) e f)

  pub end_passes : (total : PlanTotal) → all_hold goal (state_of tally) ≡ true → total ≡ record { cost = tally.minutes; steps = tally.steps } → checked_of (Ok total) ≡ end_answer tally goal
  unfolding end_answer with_total total_in is_done
  end_passes total e f = ap (λ (x : PlanTotal). checked_of (Ok x)) f ∙ ap given (guard_passes (all_hold goal (state_of tally)) 23 tally.steps.0 done done e refl)
