-- The plan checker's answer by its three stages: the task file, the plan file, the walk; and what the plan file's check gives
-- the walk.
use Prim.Native.Nat.{ℕ, ◌≤◌, ◌<◌}
use mathlib.Core.Path.{◌≡◌, refl, sym, ap, ◌∙◌}
use mathlib.Core.Bool.{Bool, cond}
use mathlib.Core.List.{List}
use lib.Dec.{leb, ltb}
use lib.ListN.{length}
use borrow.Author.Tests.{leb-true, ltb-true}
use Rattle.files.specs.declared.refusals.Refusal.{Refusal}
use Rattle.files.specs.Outcome.{Outcome, done, refused, outcome_of, is_done, in_second}
use Rattle.std.specs.Prelude.{Result, Ok, Err}
use Rattle.std.specs.Result.{IsErrAnd, MatchResult}
use Rattle.std.proofs.lemmas.Result.{err_from_is_err_and}
use Rattle.files.specs.Task.{Task, action_count}
use Rattle.files.specs.TaskFile.{check_task, task_of, actions_in}
use Rattle.files.specs.PlanFile.{check_plan_file, plan_of}
use Rattle.files.specs.Accepted.{accepted_plan}
use Rattle.files.specs.Clauses.{TaskRead}
use Rattle.files.specs.declared.arrays.Arrays.{Arrays}
use Rattle.files.proofs.Guards.{refused_stands, stops_refused, goes_done}
use Rattle.files.proofs.Logic.{and_split}
use Rattle.files.proofs.TaskChecked.{action_count_lem}
use Rattle.files.proofs.PlanRoundTrip.{plan_accepted}
use Rattle.files.proofs.Valid.{all_at}
use Rattle.plans.specs.State.{start_state}
use Rattle.plans.specs.Plan.{no_steps, total_of, step_of}
use Rattle.plans.specs.declared.PlanTotal.{PlanTotal}
use Rattle.plans.specs.Check.{Checked, take_steps, plan_outcome, with_total, checked_of, answer, walk_answer, check_plan}

-- an accepted plan file: few steps, each an action of the task
pub file_steps_few : (actions : ℕ) (plan : List ℕ) → (check_plan_file actions plan).number ≡ 0 → length (plan_of plan) ≤ 4096
unfolding accepted_plan
file_steps_few actions plan z = leb-true (length (plan_of plan)) 4096 (and_split (leb (length (plan_of plan)) 4096) _ (plan_accepted actions plan z)).0

pub file_steps_known : (actions : ℕ) (plan : List ℕ) → (check_plan_file actions plan).number ≡ 0 → (i : ℕ) → i < length (plan_of plan) → step_of (plan_of plan) i < actions
unfolding accepted_plan
file_steps_known actions plan z i h =
    ltb-true (step_of (plan_of plan) i) actions
    (all_at (λ n. ltb n actions) (plan_of plan) 0 i (and_split (leb (length (plan_of plan)) 4096) _ (plan_accepted actions plan z)).1 h)

pub answer_refused : (r : Refusal) (t : Task) (plan : List ℕ) → checked_of (Err r) ≡ answer (refused r) t plan
unfolding answer
answer_refused r t plan = ap (λ (b : Bool). with_total (refused r) (cond b (total_of t plan) no_steps)) (sym (refused_stands r))

-- an Err that `?` hands on
pub handed_checked : (o : Result PlanTotal Refusal) (r : Refusal) → IsErrAnd o (λ x. x ≡ r) → checked_of o ≡ checked_of (Err r)
handed_checked o r h = let p = err_from_is_err_and o h in rw (p.1, p.2) refl

module _ (task plan : List ℕ) where
  pub check_first : (r : Refusal) → refused r ≡ check_task task → checked_of (Err r) ≡ check_plan task plan
  unfolding check_plan plan_outcome
  check_first r e = answer_refused r (task_of task) (plan_of plan) ∙ ap (λ (o : Outcome). answer o (task_of task) (plan_of plan)) (stops_refused _ _ r e)

  module _ (passes : done ≡ check_task task) (actions : ℕ) (count : actions ≡ actions_in task) where
    file_is : check_plan_file actions plan ≡ check_plan_file (action_count (task_of task)) plan
    file_is = ap (λ (n : ℕ). check_plan_file n plan) (count ∙ sym (action_count_lem task))

    pub check_second : (r : Refusal) → refused r ≡ in_second (check_plan_file actions plan) → checked_of (Err r) ≡ check_plan task plan
    unfolding check_plan plan_outcome
    check_second r e =
        answer_refused r (task_of task) (plan_of plan)
        ∙ ap (λ (o : Outcome). answer o (task_of task) (plan_of plan)) (goes_done _ _ _ passes (stops_refused _ _ r (e ∙ ap in_second file_is)))

    pub check_walks : (r : Checked) (t : Task) → done ≡ in_second (check_plan_file actions plan) → t ≡ task_of task → r ≡ walk_answer t (plan_of plan) → r ≡ check_plan task plan
    unfolding check_plan plan_outcome walk_answer
    check_walks r t listed h e =
        e
        ∙ ap (λ (x : Task). answer (take_steps x (start_state x) 0 (plan_of plan)) x (plan_of plan)) h
        ∙ ap (λ (o : Outcome). answer o (task_of task) (plan_of plan)) (goes_done _ _ _ passes (goes_done _ _ _ (listed ∙ ap in_second file_is) refl))

-- the plan file is the second one handed in
pub second_file : {A : Type 0} {Q : Refusal → Refusal → Type 0} (check mapped : Result A Refusal) → MatchResult check (λ x. mapped ≡ Ok x) (λ e. IsErrAnd mapped (Q e))
    → ((e r : Refusal) → Q e r → refused r ≡ in_second (refused e)) → outcome_of mapped ≡ in_second (outcome_of check)
unfolding in_second is_done
second_file (Ok x) mapped m f = rw m refl
second_file (Err e) mapped m f = let p = err_from_is_err_and mapped m in rw p.1 (f e p.0 p.2)

pub second_done : (o : Outcome) → done ≡ in_second o → o.number ≡ 0
unfolding in_second
second_done o e = ap (λ (x : Outcome). x.number) (sym e)

-- a refusal of the plan file, after a task that was read, is the answer
pub second_refused : (task plan : List ℕ) (before after : Arrays) (o : Outcome) (r : Refusal) → TaskRead task before after done
    → o ≡ check_plan_file after.actions plan → refused r ≡ in_second o → checked_of (Err r) ≡ check_plan task plan
second_refused task plan before after o r read listed second =
    check_second task plan read.outcome after.actions (read.actions refl) r (second ∙ ap in_second listed)
