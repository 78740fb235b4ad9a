-- The planner is right for every accepted task: "no plan" where there is none, else the first of the best plans of the full
-- task; and each entry of its table is least.
use Prim.Native.Nat.{ℕ, ◌≤◌, ◌<◌}
use mathlib.Core.Path.{◌≡◌, refl, sym, ap, ap₂, subst, ◌∙◌}
use mathlib.Core.Bool.{true}
use mathlib.Core.List.{List, map}
use mathlib.Core.Option.{none, some}
use native.Mathlib.Omega.{arith}
use mathlib.Core.Logic.{⊎_elim}
use lib.Dec.{eqb, leb}
use lib.ListN.{length, take, get_or, length-map, get_or-append}
use lib.Seq.{take-append_seam}
use borrow.Author.Tests.{le-leb, eqb-true}
use Rattle.files.specs.Outcome.{Outcome, done, refusal, is_done, and_then, overwrite}
use Rattle.files.specs.Accepted.{valid_signer, accepted_task, accepted_plan}
use Rattle.files.specs.Bytes.{Octets}
use Rattle.files.specs.PlanFile.{plan_file}
use Rattle.files.specs.Reading.{read_plan, under}
use Rattle.files.specs.Stages.{Stage, beside, outcome_of, left_by, answer_by}
use Rattle.files.specs.Task.{Task, action_count}
use Rattle.files.specs.TaskFile.{check_task, task_of}
use Rattle.files.proofs.BelowLaws.{map_entry}
use Rattle.files.proofs.Guards.{guard_passes}
use Rattle.files.proofs.Logic.{split, split_option, and_join, or_split}
use Rattle.files.proofs.PlanRoundTrip.{plan_reads_back}
use Rattle.files.proofs.Stages.{is_yes, fits_in, both_yes, left_both, outcome_beside, left_beside}
use Rattle.files.proofs.TaskChecked.{task_accepted}
use Rattle.files.proofs.Valid.{Valid, task_valid}
use Rattle.plans.specs.Plan.{IsPlan, Total, total_of, FirstBest}
use Rattle.plans.proofs.OrderLaws.{total_steps}
use Rattle.plans.proofs.PlanChecker.{all_below_lem}
use Rattle.reduction.specs.Task.{reduced_task, by_original}
use Rattle.reduction.specs.Reduce.{Buffers, with_files, valid_reduction, reduce_file_stages}
use Rattle.reduction.specs.Preserved.{Preserves}
use Rattle.reduction.proofs.Answers.{stages_fit, buffers_fit}
use Rattle.reduction.proofs.Levels.{reduction_preserves, reduction_accepted}
use Rattle.distances.specs.declared.Entry.{Entry}
use Rattle.search.specs.Planner.{Planned, valid_planning, taken_level, count_fits, searched, plan_found, states_fit, plan_fits, plan_made, SearchBuffers, search_buffers, search_stages, Lent, lent, unplanned, plan_stages, plan_whole, plan_answer, plan_after, Plans}
use Rattle.distances.specs.States.{state_count}
use Rattle.search.specs.FirstPlan.{first_plan}
use Rattle.search.specs.Least.{started_at, DistanceLeast, PlanFirst}
use Rattle.search.specs.PlannerRight.{PlanLongEnough, HandedBack, EntryRight, PlannerRight, PlannerPromise, PlansRight}
use Rattle.distances.specs.Table.{minutes_of, distances, entry_of, table_of}
use Rattle.search.proofs.Answers.{row_is}
use Rattle.distances.proofs.Distances.{distances_length, steps_few, minutes_few}
use Rattle.search.proofs.LeastPlans.{search_least}

-- an entry of the table of a task
module _ (u : Task) (valid : Valid u) (few : state_count u.variables ≤ 4096) (n : ℕ) (h : n < state_count u.variables) where
  entry_is : get_or (table_of u) n (entry_of none) ≡ entry_of (get_or (distances u) n none)
  unfolding table_of
  entry_is = map_entry entry_of (distances u) n (entry_of none) none (omega (arith, distances_length u))

  least : DistanceLeast (started_at u n) (get_or (distances u) n none)
  least = (search_least u valid).entries n h

  entry_none : get_or (distances u) n none ≡ none → EntryRight (started_at u n) (entry_of none)
  entry_none q =
      record {
        no_plan = (λ e. subst (DistanceLeast (started_at u n)) q least, λ e. refl);
        otherwise = λ d. absurd (d refl);
      }

  entry_some : (x : Total) → get_or (distances u) n none ≡ some x → EntryRight (started_at u n) (entry_of (some x))
  unfolding entry_of
  entry_some x q =
      let w = subst (DistanceLeast (started_at u n)) q least in
      record {
        no_plan = (
          λ e. absurd (omega (arith, ap minutes_of e, steps_few u valid n x h q, minutes_few u valid n x h q)),
          λ none_there. absurd (none_there w.0 w.1.is_plan),
        );
        otherwise =
            λ d. (
              w.0,
              w.1,
              ap (λ (y : Total). y.minutes) (sym w.2),
              ap (λ (y : Total). y.steps) (sym w.2) ∙ total_steps (started_at u n) w.0,
            );
      }

  pub entry_right : EntryRight (started_at u n) (get_or (table_of u) n (entry_of none))
  entry_right =
      split_option (get_or (distances u) n none)
      (λ q. subst (EntryRight (started_at u n)) (sym (entry_is ∙ ap entry_of q)) (entry_none q))
      (λ x q. subst (EntryRight (started_at u n)) (sym (entry_is ∙ ap entry_of q)) (entry_some x q))

-- the stages at a level that reduction takes
module _ (task : List ℕ) (level signer : ℕ) (b : Lent) (octets : Octets task) (e : check_task task ≡ done) (v : valid_reduction level ≡ true) (s : valid_signer signer ≡ true) (few : state_count (reduced_task (task_of task) level).variables ≤ 4096) (long : PlanLongEnough task level signer b) where
  abbrev t : Task
  t = task_of task

  abbrev u : Task
  u = reduced_task t level

  abbrev answer : Planned
  answer = answer_by (plan_stages task level signer b) (plan_whole task level signer) unplanned

  abbrev after : Lent
  after = left_by (plan_stages task level signer b) b

  accepted : accepted_task t ≡ true
  accepted = task_accepted task octets (ap (λ (o : Outcome). o.number) e)

  valid : Valid u
  valid = task_valid u (reduction_accepted t level accepted)

  preserved : Preserves t u (by_original t level)
  preserved = reduction_preserves t level accepted

  reduced_done : is_done (outcome_of (reduce_file_stages task level signer b.buffers)) ≡ true
  reduced_done = is_yes _ (stages_fit task level signer b.buffers e v s long.buffers)

  states_done : is_done (states_fit (searched task level) (length b.table)) ≡ true
  unfolding count_fits searched
  states_done =
      is_yes _
      (sym (guard_passes (leb (state_count u.variables) 4096) 25 0 _ done (le-leb _ _ few) (sym (fits_in (state_count u.variables) (length b.table) done long.table))))

  abbrev found : Outcome
  found = plan_fits (plan_found task level) signer (length b.plan)

  abbrev search_row : List (Stage SearchBuffers)
  search_row = search_stages (searched task level) (plan_found task level) signer (search_buffers b.table b.plan)

  search_is : outcome_of search_row ≡ and_then found done
  unfolding search_stages
  search_is = both_yes _ _ states_done

  stage : outcome_of (plan_stages task level signer b) ≡ and_then found done
  stage = row_is task level signer b ∙ both_yes _ _ reduced_done ∙ search_is

  -- the buffers of the row are those of its second half, with the files beside them
  after_is : after ≡ lent (with_files t level signer b.buffers) (left_by search_row (search_buffers b.table b.plan)).table (left_by search_row (search_buffers b.table b.plan)).plan
  unfolding plan_stages
  after_is =
      left_both (map (beside (λ (x : Buffers). lent x b.table b.plan)) (reduce_file_stages task level signer b.buffers)) _ b (ap is_done (outcome_beside _ (reduce_file_stages task level signer b.buffers)) ∙ reduced_done)
      ∙ ap (left_by (map (beside besides) search_row))
      (left_beside (λ (x : Buffers). lent x b.table b.plan) (reduce_file_stages task level signer b.buffers) b.buffers
      ∙ ap (λ (x : Buffers). lent x b.table b.plan) (buffers_fit task level signer b.buffers e v s long.buffers))
      ∙ left_beside besides search_row (search_buffers b.table b.plan)
    where
      besides : SearchBuffers → Lent
      besides x = lent (with_files t level signer b.buffers) x.table x.plan

  table_filled : after.table ≡ overwrite b.table (table_of (searched task level))
  unfolding search_stages
  table_filled = ap (λ (x : Lent). x.table) after_is ∙ rw states_done (split (is_done found) (λ y. rw y refl) (λ n. rw n refl))

  plan_written : is_done found ≡ true → after.plan ≡ overwrite b.plan (plan_file (plan_made task level) signer)
  unfolding search_stages plan_made
  plan_written y = ap (λ (x : Lent). x.plan) after_is ∙ rw (states_done, y) refl

  found_none : first_plan u ≡ none → found ≡ refusal 24 0
  unfolding plan_found plan_fits searched
  found_none q = rw q refl

  outcome_none : first_plan u ≡ none → answer.outcome ≡ refusal 24 0
  unfolding and_then is_done
  outcome_none q = let is = stage ∙ ap (λ (o : Outcome). and_then o done) (found_none q) in rw is refl

  none_there : first_plan u ≡ none → (plan : List ℕ) → IsPlan t plan → ⊥
  none_there q plan p =
      let w : PlanFirst u none = subst (PlanFirst u) q (search_least u valid).plan in
      let r = preserved.solvable.0 (plan, p) in
      w r.0 r.1

  -- the table is filled, with a plan or without
  entries : (n : ℕ) → n < state_count u.variables → EntryRight (started_at u n) (get_or after.table n (entry_of none))
  unfolding overwrite searched table_of
  entries n h =
      subst (EntryRight (started_at u n))
      (sym
      (ap (λ (l : List Entry). get_or l n (entry_of none)) table_filled
      ∙ get_or-append (table_of u) _ (entry_of none) n (omega (arith, table_length))))
      (entry_right u valid few n h)
    where
      table_length : length (table_of u) ≡ state_count u.variables
      table_length = length-map (distances u) _ ∙ distances_length u

  -- where the reduced task has a plan
  module _ (q : List ℕ) (f : first_plan u ≡ some q) where
    first : PlanFirst u (some q)
    first = subst (PlanFirst u) f (search_least u valid).plan

    abbrev p : List ℕ
    p = by_original t level q

    full : FirstBest t p
    full = preserved.first_back q first.0

    made : plan_made task level ≡ p
    unfolding plan_made plan_found searched
    made = rw f refl

    found_some : found ≡ done
    unfolding plan_found plan_fits searched
    found_some = rw f (fits_in (length (plan_file p signer)) (length b.plan) done (long.plan p full.best))

    same_length : length p ≡ length q
    unfolding by_original
    same_length = length-map q _

    held : accepted_plan (action_count t) p ≡ true
    unfolding accepted_plan
    held = and_join (le-leb (length p) 4096 (omega (arith, same_length, first.1))) (all_below_lem (action_count t) p full.best.is_plan.numbers)

    whole_is : answer ≡ plan_whole task level signer
    unfolding and_then is_done
    whole_is = let is = stage ∙ ap (λ (o : Outcome). and_then o done) found_some in rw is refl

    answer_is : answer.outcome ≡ done
    answer_is = ap (λ (x : Planned). x.outcome) whole_is

    numbers :
        (answer.plan ≡ length (plan_file p signer))
        × (answer.cost.0 ≡ (total_of t p).minutes)
        × (answer.steps.0 ≡ (total_of t p).steps)
    numbers = (
      ap (λ (x : Planned). x.plan) whole_is ∙ ap (λ (l : List ℕ). length (plan_file l signer)) made,
      ap (λ (x : Planned). x.cost.0) whole_is ∙ ap (λ (l : List ℕ). (total_of t l).minutes) made,
      ap (λ (x : Planned). x.steps.0) whole_is ∙ ap (λ (l : List ℕ). (total_of t l).steps) made,
    )

    buffer : after.plan ≡ overwrite b.plan (plan_file p signer)
    buffer = plan_written (is_yes _ found_some) ∙ ap (λ (l : List ℕ). overwrite b.plan (plan_file l signer)) made

    file : read_plan (action_count t) (take answer.plan after.plan) ≡ under p signer
    unfolding overwrite
    file =
        ap (read_plan (action_count t)) (ap₂ (λ (n : ℕ) (l : List ℕ). take n l) numbers.0 buffer ∙ take-append_seam (plan_file p signer) _)
        ∙ plan_reads_back (action_count t) p signer (omega (arith, (task_valid t accepted).actions_few)) held s

    handed : HandedBack t signer answer after.plan
    handed =
        record {
          outcome = answer_is;
          plan = p;
          file = file;
          is_plan = full.best.is_plan;
          cost = numbers.1;
          steps = numbers.2 ∙ total_steps t p;
          best = full.best;
          first = full;
        }

    not_none : answer.outcome ≡ refusal 24 0 → ⊥
    not_none z = absurd (let k : ◌≡◌ {A = ℕ} 24 0 = ap (λ (o : Outcome). o.number) (sym z ∙ answer_is) in omega arith)

  planner_right : PlannerRight task level signer answer after
  planner_right =
      split_option (first_plan u)
      (λ q.
      record {
        no_plan = (λ z. none_there q, λ n. outcome_none q);
        otherwise = λ n. absurd (n (outcome_none q));
        entries = entries;
      })
      (λ q f.
      record {
        no_plan = (λ z. absurd (not_none q f z), λ n. absurd (n (p q f) (full q f).best.is_plan));
        otherwise = λ n. handed q f;
        entries = entries;
      })

-- reduction takes every level that the planner takes
planning_reduces : (level : ℕ) → valid_planning level ≡ true → valid_reduction level ≡ true
unfolding valid_planning valid_reduction
planning_reduces level v = ⊎_elim (λ four. rw (eqb-true level 4 four) refl) (λ five. rw (eqb-true level 5 five) refl) (or_split (eqb level 4) (eqb level 5) v)

taken_is : (level : ℕ) → valid_planning level ≡ true → taken_level level ≡ level
unfolding taken_level
taken_is level v = rw v refl

pub planner_promise : (task : List ℕ) (level signer : ℕ) (b : Lent) → PlannerPromise task level signer b (plan_answer task level signer b) (plan_after task level signer b)
planner_promise task level signer b octets e v s few long =
    subst (λ (l : ℕ). PlannerRight task level signer (answer_by (plan_stages task l signer b) (plan_whole task l signer) unplanned) (left_by (plan_stages task l signer b) b)) (sym (taken_is level v))
    (planner_right task level signer b octets e (planning_reduces level v) s few long)

-- a call by the planner's stages is right
pub plans_right : (task : List ℕ) (level signer : ℕ) (b : Lent) (answer : Planned) (now : Lent) → Plans task level signer b answer now → PlansRight task level signer b answer now
plans_right task level signer b answer now k = record { stages = k; right = rw (k.answer, k.buffers) (planner_promise task level signer b) }
