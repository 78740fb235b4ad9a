-- Buffers of the header's largest lengths are long enough for every accepted task that is searched, and are never too short.
use Prim.Native.Nat.{ℕ, ◌≤◌}
use mathlib.Core.Path.{◌≡◌, refl, sym, ap, subst, ◌∙◌}
use mathlib.Core.Bool.{Bool, true, false}
use mathlib.Core.List.{List, ◌++◌}
use mathlib.Core.Logic.{◌⊎◌, inl, inr, ⊎_elim}
use mathlib.Core.Option.{none, some}
use native.Mathlib.Omega.{arith}
use lib.ListN.{length, length-append}
use borrow.Author.Tests.{leb-true}
use Rattle.files.specs.Outcome.{Outcome, done, is_done, guard, and_then, fits}
use Rattle.files.specs.Accepted.{accepted_task}
use Rattle.files.specs.Bytes.{Octets}
use Rattle.files.specs.OriginFile.{variable_origin_bytes, origin_file}
use Rattle.files.specs.PlanFile.{plan_file}
use Rattle.files.specs.Stages.{outcome_of}
use Rattle.files.specs.Records.{size_fits, number_bytes, record_bytes, signer_of}
use Rattle.files.specs.Task.{Task}
use Rattle.files.specs.TaskFile.{check_task, task_of, task_file}
use Rattle.files.proofs.Done.{facts}
use Rattle.files.proofs.Guards.{done_number, both_done}
use Rattle.files.proofs.Lengths.{number_record_length, signed_length, plan_file_length}
use Rattle.files.proofs.Listed.{not_listed, task_listed, task_check_done}
use Rattle.files.proofs.Logic.{split, split_option}
use Rattle.files.proofs.Origins.{origin_bytes_few}
use Rattle.files.proofs.Stages.{fits_in}
use Rattle.files.proofs.TaskChecked.{task_accepted, task_written}
use Rattle.files.proofs.Valid.{Valid, task_valid}
use Rattle.files.proofs.ValidOrigin.{origin_valid}
use Rattle.plans.specs.Plan.{Total, total_of, Best}
use Rattle.plans.proofs.OrderLaws.{total_steps}
use Rattle.marking.specs.Mark.{marks_fit}
use Rattle.marking.proofs.Rounding.{facts_few}
use Rattle.reduction.specs.Preserved.{Preserves}
use Rattle.reduction.specs.Reduce.{reduced_file, origins_file, files_fit, reduce_input, reduce_stages, reduce_file_stages}
use Rattle.reduction.specs.Task.{reduced_task, origins_at, by_original}
use Rattle.reduction.proofs.Levels.{reduction_preserves, reduction_accepted, reduction_origins, reduction_no_longer}
use Rattle.distances.specs.States.{state_count}
use Rattle.search.specs.FirstPlan.{first_plan}
use Rattle.search.specs.Least.{PlanFirst}
use Rattle.search.specs.Planner.{taken_level, count_fits, searched, states_fit, plan_found, plan_fits, search_buffers, search_stages, Lent, plan_stages}
use Rattle.search.specs.PlannerRight.{Ample, AmpleSuffices, NeverShort}
use Rattle.search.proofs.Answers.{row_is}
use Rattle.search.proofs.LeastPlans.{search_least}

module _ (task : List ℕ) (level : ℕ) (octets : Octets task) (e : check_task task ≡ done) where
  abbrev t : Task
  t = task_of task

  abbrev u : Task
  u = reduced_task t level

  passes : (check_task task).number ≡ 0
  passes = ap (λ (o : Outcome). o.number) e

  accepted : accepted_task t ≡ true
  accepted = task_accepted task octets passes

  valid : Valid t
  valid = task_valid t accepted

  task_small : length task ≤ 65536
  unfolding check_task size_fits
  task_small = let found = simp facts at passes in found.0

  reduced_small : (signer : ℕ) → length (reduced_file t level signer) ≤ 65536
  unfolding reduced_file task_file
  reduced_small signer =
      omega (arith, reduction_no_longer t level accepted signer, ap length (task_written task octets passes), same_length, task_small)
    where
      same_length : length (task_file t signer) ≡ length (task_file t (signer_of task))
      same_length = signed_length signer _ ∙ sym (signed_length (signer_of task) _)

  origin_small : (signer : ℕ) → length (origins_file t level signer) ≤ 5520
  unfolding origins_file origin_file
  origin_small signer =
      let o = origins_at t level in
      let v = origin_valid o (reduction_origins t level accepted) in
      omega (
        arith,
        signed_length signer (variable_origin_bytes o.variables ++ record_bytes 7 (number_bytes o.actions)),
        length-append (variable_origin_bytes o.variables) (record_bytes 7 (number_bytes o.actions)),
        origin_bytes_few o.variables v.variables,
        number_record_length 7 o.actions,
        v.variables_few,
        v.actions_few,
      )

  read_off : PlanFirst u (first_plan u)
  read_off = (search_least u (task_valid u (reduction_accepted t level accepted))).plan

  preserved : Preserves t u (by_original t level)
  preserved = reduction_preserves t level accepted

  -- every best plan of the full task has fewer steps than the reduced task has states
  best_short : state_count u.variables ≤ 4096 → (plan : List ℕ) → Best t plan → length plan ≤ 4095
  best_short few plan b =
      split_option (first_plan u)
      (λ q.
      let w : PlanFirst u none = subst (PlanFirst u) q read_off in
      let r = preserved.solvable.0 (plan, b.is_plan) in
      absurd (w r.0 r.1))
      (λ p q.
      let w : PlanFirst u (some p) = subst (PlanFirst u) q read_off in
      let alike : (total_of t plan).steps ≡ (total_of u p).steps = ap (λ (x : Total). x.steps) (preserved.least plan p b w.0.best) in
      omega (arith, total_steps t plan, total_steps u p, w.1))

  plan_small : state_count u.variables ≤ 4096 → (signer : ℕ) (plan : List ℕ) → Best t plan → length (plan_file plan signer) ≤ 8206
  plan_small few signer plan b = omega (arith, plan_file_length plan signer, best_short few plan b)

pub ample_suffices : AmpleSuffices
ample_suffices task level signer b octets e few room =
    record {
      buffers =
          record {
            actions = omega (arith, (valid task level octets e).actions_few);
            facts = omega (arith, facts_few (task_of task) (valid task level octets e));
            reduced = omega (arith, reduced_small task level octets e signer);
            origin = omega (arith, origin_small task level octets e signer);
          };
      table = omega arith;
      plan = λ plan best. omega (arith, plan_small task level octets e few signer plan best);
    }

-- where a row gives 21
then_short : (a b : Outcome) → (and_then a b).number ≡ 21 → (a.number ≡ 21) ⊎ ((a.number ≡ 0) × (b.number ≡ 21))
unfolding and_then
then_short a b e = split (is_done a) (λ y. inr (done_number a y, rw y at e)) (λ n. inl (rw n at e))

guard_short : (t : Bool) (n p : ℕ) (rest : Outcome) → (guard t n p rest).number ≡ 21 → (n ≡ 21 → ⊥) → (t ≡ true) × (rest.number ≡ 21)
unfolding guard
guard_short true n p rest e d = (refl, e)
guard_short false n p rest e d = absurd (d e)

fits_short : (needed room : ℕ) (rest : Outcome) → needed ≤ room → (fits needed room rest).number ≡ 21 → rest.number ≡ 21
fits_short needed room rest h e = ap (λ (o : Outcome). o.number) (sym (fits_in needed room rest h)) ∙ e

done_short : done.number ≡ 21 → ⊥
done_short e = let z : ◌≡◌ {A = ℕ} 0 21 = e in omega arith

-- a row of which no stage gives 21
module _ (task : List ℕ) (level signer : ℕ) (b : Lent) (octets : Octets task) (room : Ample b) where
  input_never : (reduce_input task level signer).number ≡ 21 → ⊥
  unfolding reduce_input
  input_never e =
      ⊎_elim
      (λ f. not_listed 0 21 task (check_task task) refl refl (task_listed task) f)
      (λ rest. done_short (guard_short _ 7 0 _ (guard_short _ 8 0 _ rest.1 (λ q. omega arith)).1 (λ q. omega arith)).1)
      (then_short _ _ e)

  input_accepted : (reduce_input task level signer).number ≡ 0 → check_task task ≡ done
  unfolding reduce_input
  input_accepted e = task_check_done task (both_done _ _ e).0

  marks_never : check_task task ≡ done → (marks_fit (task_of task) (length b.buffers.actions) (length b.buffers.facts)).number ≡ 21 → ⊥
  unfolding marks_fit
  marks_never z e =
      let facts_room = facts_few (task_of task) (valid task level octets z) in
      let actions_room = (valid task level octets z).actions_few in
      done_short (fits_short _ _ done (omega (arith, room.facts)) (fits_short _ _ _ (omega (arith, room.actions)) e))

  files_never : check_task task ≡ done → (files_fit (reduced_task (task_of task) level) (origins_at (task_of task) level) signer (length b.buffers.reduced) (length b.buffers.origin)).number ≡ 21 → ⊥
  unfolding files_fit reduced_file origins_file
  files_never z e =
      let reduced_room : length (task_file (reduced_task (task_of task) level) signer) ≤ 65536 = reduced_small task level octets z signer in
      let origin_room : length (origin_file (origins_at (task_of task) level) signer) ≤ 5520 = origin_small task level octets z signer in
      done_short (fits_short _ _ done (omega (arith, room.origin)) (fits_short _ _ _ (omega (arith, room.reduced)) e))

  states_never : (states_fit (searched task level) (length b.table)).number ≡ 21 → ⊥
  unfolding count_fits
  states_never e =
      let few = guard_short _ 25 0 _ e (λ q. omega arith) in
      let count = state_count (searched task level).variables in
      let inside : count ≤ 4096 = leb-true _ 4096 few.0 in
      done_short (fits_short count (length b.table) done (omega (arith, room.table)) few.1)

  states_few : (states_fit (searched task level) (length b.table)).number ≡ 0 → state_count (reduced_task (task_of task) level).variables ≤ 4096
  unfolding count_fits searched
  states_few e = let found = simp facts at e in found.0

  plan_never : check_task task ≡ done → state_count (reduced_task (task_of task) level).variables ≤ 4096 → (plan_fits (plan_found task level) signer (length b.plan)).number ≡ 21 → ⊥
  unfolding plan_found plan_fits searched
  plan_never z few e =
      split_option (first_plan (u task level octets z))
      (λ q. let no : ◌≡◌ {A = ℕ} 24 21 = rw q at e in omega arith)
      (λ p q.
      let w : PlanFirst (u task level octets z) (some p) = subst (PlanFirst (u task level octets z)) q (read_off task level octets z) in
      let best = ((preserved task level octets z).first_back p w.0).best in
      let small = plan_small task level octets z few signer _ best in
      done_short (fits_short _ _ done (omega (arith, room.plan)) (rw q at e)))

  files_row_never : (outcome_of (reduce_file_stages task level signer b.buffers)).number ≡ 21 → ⊥
  unfolding reduce_stages
  files_row_never e =
      ⊎_elim
      (λ first. ⊎_elim input_never (λ rest. marks_never (input_accepted rest.0) rest.1) (then_short _ _ first))
      (λ rest.
      let z = input_accepted (both_done _ _ rest.0).0 in
      ⊎_elim (files_never z) (λ last. done_short last.1) (then_short _ _ rest.1))
      (then_short _ _ e)

  files_row_accepted : (outcome_of (reduce_file_stages task level signer b.buffers)).number ≡ 0 → check_task task ≡ done
  unfolding reduce_stages
  files_row_accepted e = input_accepted (both_done _ _ (both_done _ _ e).0).0

  search_row_never : check_task task ≡ done → (outcome_of (search_stages (searched task level) (plan_found task level) signer (search_buffers b.table b.plan))).number ≡ 21 → ⊥
  unfolding search_stages
  search_row_never z e =
      ⊎_elim
      states_never
      (λ rest. ⊎_elim (plan_never z (states_few rest.0)) (λ last. done_short last.1) (then_short _ _ rest.1))
      (then_short _ _ e)

  row_never : (outcome_of (plan_stages task level signer b)).number ≡ 21 → ⊥
  row_never e =
      ⊎_elim
      files_row_never
      (λ rest. search_row_never (files_row_accepted rest.0) rest.1)
      (then_short _ _ (ap (λ (o : Outcome). o.number) (sym (row_is task level signer b)) ∙ e))

pub never_short : NeverShort
never_short task level signer b octets room e =
    row_never task (taken_level level) signer b octets room
    (split (is_done (outcome_of (plan_stages task (taken_level level) signer b)))
    (λ y. absurd (let z : ◌≡◌ {A = ℕ} 0 21 = rw y at e in omega arith))
    (λ n. rw n at e))
