-- The plan checker answers by its stages, with an outcome of its list, and is right for all files and all lists.
use Prim.Native.Nat.{ℕ, suc, ◌+◌, ◌<◌}
use mathlib.Core.Path.{◌≡◌, refl, sym, ap, ◌∙◌}
use mathlib.Core.Bool.{Bool, true, cond}
use mathlib.Core.List.{List, [], ◌∷◌, ◌++◌}
use native.Mathlib.Omega.{arith}
use lib.Dec.{ltb}
use lib.ListN.{length}
use borrow.Author.Tests.{lt-ltb, ltb-true}
use Rattle.files.specs.Outcome.{Outcome, done, refusal, is_done, and_then, in_second}
use Rattle.files.specs.Below.{all_of}
use Rattle.files.specs.Listed.{listed, gives, refused_at, file_refusals}
use Rattle.files.specs.Task.{Task, action_count, action_of}
use Rattle.files.specs.TaskFile.{check_task, task_of}
use Rattle.files.specs.PlanFile.{check_plan_file, plan_of}
use Rattle.files.proofs.Guards.{both_done, goes_on_lem, is_done_lem}
use Rattle.files.proofs.Listed.{listed_done, listed_front, listed_behind, listed_guard, listed_both, listed_itself, listed_second, listed_at, listed_later, task_listed, plan_listed, task_check_done, plan_check_done}
use Rattle.files.proofs.Logic.{and_join, split}
use Rattle.files.proofs.Stages.{both_last, answer_by_lem}
use Rattle.files.proofs.Valid.{all_at}
use Rattle.plans.specs.State.{State, start_state, apply}
use Rattle.plans.specs.Plan.{IsPlan, no_steps, total_of, step_of}
use Rattle.plans.specs.Check.{Checked, take_steps, plan_outcome, with_total, answer, check_plan}
use Rattle.plans.specs.Checker.{step_refused, check_refusals, CheckAnswers, CheckerRight, ListRight}
use Rattle.plans.proofs.OrderLaws.{total_steps}
use Rattle.plans.proofs.RunLaws.{runs_plan, plan_runs, walk_done, done_walk}
use Rattle.plans.proofs.CheckLaws.{file_steps_known}

-- the numbers of a list, each below a limit
pub all_below_lem : (limit : ℕ) (plan : List ℕ) → ((i : ℕ) → i < length plan → step_of plan i < limit) → all_of (λ n. ltb n limit) plan ≡ true
all_below_lem limit [] f = refl
all_below_lem limit (a ∷ plan) f = and_join (lt-ltb a limit (f 0 (omega arith))) (all_below_lem limit plan (λ i h. f (suc i) (omega arith)))

module _ (t : Task) (plan : List ℕ) where
  pub list_right : ListRight t plan
  list_right = (
    λ both. runs_plan t plan
        (done_walk t (start_state t) 0 plan (λ i h. ltb-true (step_of plan i) (action_count t) (all_at (λ n. ltb n (action_count t)) plan 0 i both.0 h)) (ap (λ (o : Outcome). o.number) both.1)),
    λ p. (all_below_lem (action_count t) plan p.numbers, walk_done t (start_state t) 0 plan (plan_runs t plan p)),
  )

-- 22 at a step of the list, 23 behind the last
step_listed : (whole : List ℕ) (i : ℕ) → i < length whole → listed (step_refused whole ∷ refused_at 23 (length whole) ∷ []) (refusal 22 i) ≡ true
unfolding listed is_done gives
step_listed whole i h = rw (lt-ltb i (length whole) h) refl

steps_listed : (whole : List ℕ) (t : Task) (s : State) (i : ℕ) (plan : List ℕ) → i + length plan ≡ length whole
    → listed (step_refused whole ∷ refused_at 23 (length whole) ∷ []) (take_steps t s i plan) ≡ true
unfolding take_steps
steps_listed whole t s i [] e =
    let end : length whole ≡ i = omega arith in
    listed_guard _ _ 23 i done (rw end (listed_later _ _ _ (listed_at 23 i [] refl))) (λ _. listed_done _)
steps_listed whole t s i (a ∷ plan) e =
    listed_guard _ _ 22 i _ (step_listed whole i (omega arith)) (λ _. steps_listed whole t (apply (action_of t a) s) (i + 1) plan (omega arith))

module _ (task plan : List ℕ) where
  abbrev n : ℕ
  n = action_count (task_of task)

  abbrev walk : Outcome
  walk = take_steps (task_of task) (start_state (task_of task)) 0 (plan_of plan)

  walk_listed : listed (step_refused (plan_of plan) ∷ refused_at 23 (length (plan_of plan)) ∷ []) walk ≡ true
  walk_listed = steps_listed (plan_of plan) (task_of task) (start_state (task_of task)) 0 (plan_of plan) (omega arith)

  row_is : plan_outcome task plan ≡ and_then (check_task task) (and_then (in_second (check_plan_file n plan)) (and_then walk done))
  unfolding plan_outcome
  row_is = ap (λ (o : Outcome). and_then (check_task task) (and_then (in_second (check_plan_file n plan)) o)) (sym (both_last walk (listed_itself _ walk walk_listed)))

  row_listed : listed (check_refusals task plan) (and_then (check_task task) (and_then (in_second (check_plan_file n plan)) (and_then walk done))) ≡ true
  row_listed =
      let files = file_refusals 0 task ++ file_refusals 1 plan in
      let steps = step_refused (plan_of plan) ∷ refused_at 23 (length (plan_of plan)) ∷ [] in
      listed_both (check_refusals task plan) _ _ (listed_front files steps _ (listed_front (file_refusals 0 task) (file_refusals 1 plan) _ (task_listed task)))
      (λ _. listed_both (check_refusals task plan) _ _ (listed_front files steps _ (listed_behind (file_refusals 0 task) (file_refusals 1 plan) _ (listed_second plan _ (plan_listed n plan))))
      (λ _. listed_both (check_refusals task plan) _ _ (listed_behind files steps _ walk_listed) (λ _. listed_done (check_refusals task plan))))

  numbers_are : check_plan task plan ≡ cond (is_done (plan_outcome task plan)) (with_total (plan_outcome task plan) (total_of (task_of task) (plan_of plan))) (with_total (plan_outcome task plan) no_steps)
  unfolding check_plan answer
  numbers_are = split (is_done (plan_outcome task plan)) (λ e. rw e refl) (λ e. rw e refl)

  pub check_answers : CheckAnswers task plan
  check_answers =
      record {
        outcome = row_listed;
        numbers =
            numbers_are
            ∙ answer_by_lem _ _ _ _ (λ o. with_total o no_steps) row_is
            (λ e. ap (λ (o : Outcome). with_total o (total_of (task_of task) (plan_of plan))) (listed_itself _ _ (ap (listed (check_refusals task plan)) row_is ∙ row_listed) e));
        buffers = refl;
      }

  number : {a b : Outcome} → a ≡ b → a.number ≡ b.number
  number e = ap (λ (o : Outcome). o.number) e

  outcome_is : (check_plan task plan).outcome ≡ plan_outcome task plan
  unfolding check_plan answer with_total
  outcome_is = refl

  stages : (plan_outcome task plan).number ≡ 0 → ((check_task task).number ≡ 0) × ((check_plan_file n plan).number ≡ 0) × (walk.number ≡ 0)
  unfolding plan_outcome in_second
  stages e = let first = both_done _ _ e in let second = both_done _ _ first.1 in (first.0, second.0, second.1)

  done_plan : (check_plan task plan).outcome ≡ done → (check_task task ≡ done) × (check_plan_file n plan ≡ done) × IsPlan (task_of task) (plan_of plan)
  done_plan e =
      let s = stages (number (sym outcome_is ∙ e)) in (
        task_check_done task s.0,
        plan_check_done plan n s.1,
        runs_plan (task_of task) (plan_of plan) (done_walk (task_of task) (start_state (task_of task)) 0 (plan_of plan) (file_steps_known n plan s.1) s.2),
      )

  plan_done : check_task task ≡ done → check_plan_file n plan ≡ done → IsPlan (task_of task) (plan_of plan) → (check_plan task plan).outcome ≡ done
  unfolding plan_outcome in_second
  plan_done a b p =
      let walked = walk_done (task_of task) (start_state (task_of task)) 0 (plan_of plan) (plan_runs (task_of task) (plan_of plan) p) in
      outcome_is
      ∙ sym (goes_on_lem _ _ done (check_task task) refl (number a) (goes_on_lem _ _ done (in_second (check_plan_file n plan)) refl (number b) (sym walked)))

  total_given : (check_plan task plan).outcome ≡ done → check_plan task plan ≡ with_total (plan_outcome task plan) (total_of (task_of task) (plan_of plan))
  unfolding check_plan answer
  total_given e =
      ap (λ (b : Bool). with_total (plan_outcome task plan) (cond b (total_of (task_of task) (plan_of plan)) no_steps)) (is_done_lem (plan_outcome task plan) (number (sym outcome_is ∙ e)))

  pub checker_right : CheckerRight task plan
  unfolding with_total
  checker_right =
      record {
        yes = (done_plan, λ all. plan_done all.0 all.1 all.2);
        cost = λ e. ap (λ (c : Checked). c.cost.0) (total_given e);
        steps = λ e. ap (λ (c : Checked). c.steps.0) (total_given e) ∙ total_steps (task_of task) (plan_of plan);
      }
