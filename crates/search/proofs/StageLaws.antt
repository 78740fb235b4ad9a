-- The planner's stages, from those of reduction and of the search.
use Prim.Native.Nat.{ℕ, ◌^◌, ◌≤◌, ◌<◌}
use mathlib.Core.Path.{◌≡◌, refl, sym, ap, ap₂, subst, ◌∙◌}
use mathlib.Core.Bool.{true, false}
use mathlib.Core.List.{List, [], ◌∷◌, map}
use mathlib.Core.Option
use mathlib.Core.Option.{Option, none, some}
use native.Mathlib.Omega.{arith}
use lib.Dec.{leb}
use lib.ListN.{length, get_or, take, drop, length-append}
use lib.Seq.{take-append_seam}
use borrow.Author.Tests.{le-leb}
use Rattle.files.specs.Accepted.{valid_signer, accepted_task}
use Rattle.files.specs.Bytes.{Octets}
use Rattle.files.specs.OriginFile.{Origin, origin_of}
use Rattle.std.specs.Prelude.{Result, Ok, Err}
use Rattle.std.specs.Result.{IsErrAnd}
use Rattle.std.proofs.lemmas.Result.{err_from_is_err_and}
use Rattle.search.specs.declared.Counts.{Counts}
use Rattle.files.specs.declared.refusals.Refusal.{Refusal}
use Rattle.files.specs.Outcome.{done, refused, is_done, overwrite}
use Rattle.files.specs.PlanFile.{plan_file}
use Rattle.files.specs.Stages.{Stage, outcome_of, left_by, answer_by}
use Rattle.files.specs.Task.{Task, action_count}
use Rattle.files.specs.TaskFile.{check_task, task_of}
use Rattle.files.proofs.Guards.{is_done_lem, refused_stands, done_number, passed, both_done}
use Rattle.files.proofs.Logic.{split, split_option, and_join}
use Rattle.files.proofs.OriginRoundTrip.{origin_read_as}
use Rattle.files.proofs.Stages.{left_last, by_first, by_second, given_whole, given_refused}
use Rattle.files.proofs.TaskChecked.{task_accepted}
use Rattle.files.proofs.TaskRoundTrip.{task_read_as}
use Rattle.files.proofs.Listed.{task_check_done}
use Rattle.files.proofs.Valid.{Valid, task_valid}
use Rattle.plans.specs.Plan.{IsPlan, total_of}
use Rattle.reduction.specs.Reduce.{Reduced, Buffers, with_files, reduced_file, origins_file, valid_reduction, reduce_input, reduce_stages, reduce_file_stages, reduce_whole, Reduces}
use Rattle.reduction.specs.Task.{reduced_task, origins_at, by_original}
use Rattle.reduction.specs.Preserved.{FilesPreserve, by_origin_file}
use Rattle.reduction.proofs.FilesPreserved.{reduction_of_files}
use Rattle.reduction.proofs.Levels.{reduction_preserves, reduction_accepted}
use Rattle.search.specs.Planner.{Planned, taken_level, searched, searched_states, plan_found, plan_made, states_fit, plan_fits, SearchBuffers, search_buffers, search_stages, lent, unplanned, planned_of, plan_whole, plan_stages, Plans}
use Rattle.search.specs.declared.stages.PlanFound.{PlanFound}
use Rattle.distances.specs.declared.Entry.{Entry}
use Rattle.search.specs.Found.{Found, found_of}
use Rattle.search.specs.FirstPlan.{first_plan, found_plan}
use Rattle.search.specs.Least.{PlanFirst}
use Rattle.search.specs.Found.{found_states, found_whole, not_found, Searches, FilesWritten, SearchesFiles, both_together}
use Rattle.search.proofs.FoundLaws.{plan_is}
use Rattle.search.proofs.LeastPlans.{search_least}

pub together_done : (first : Reduced) (x : PlanFound) (states : ℕ)
    → record {
      outcome = done;
      action_marks = first.action_marks;
      fact_marks = first.fact_marks;
      reduced = first.reduced;
      origin = first.origin;
      table = x.states;
      plan = x.plan;
      rounds = first.rounds;
      turns = first.turns;
      cost = x.cost;
      steps = x.steps;
    }
    ≡ both_together first (found_of states (Ok x))
unfolding both_together is_done
together_done first x states = refl

pub planned_up : (x : Result Counts Refusal) (r : Refusal) → IsErrAnd x (λ y. y ≡ r) → planned_of x ≡ unplanned (refused r)
planned_up x r h = let p = err_from_is_err_and x h in rw (p.1, p.2) refl

pub together_refused : (first : Reduced) (states : ℕ) (r : Refusal) → unplanned (refused r) ≡ both_together first (found_of states (Err r))
unfolding both_together
together_refused first states r = rw (refused_stands r) refl

module _ (task : List ℕ) (level signer : ℕ) (before : Buffers) (first : Reduced) (after : Buffers) (k : Reduces task (taken_level level) signer before first after) where
  abbrev t : Task
  t = task_of task

  abbrev taken : ℕ
  taken = taken_level level

  abbrev u : Task
  u = searched task taken

  abbrev files_row : List (Stage Buffers)
  files_row = reduce_file_stages task taken signer before

  row_refused : (first.outcome.number ≡ 0 → ⊥) → is_done (outcome_of files_row) ≡ false
  row_refused d = split (is_done (outcome_of files_row)) (λ y. absurd (d (ap (λ (x : Reduced). x.outcome.number) (given_whole k y)))) (λ n. n)

  row_done : first.outcome.number ≡ 0 → is_done (outcome_of files_row) ≡ true
  row_done z =
      split (is_done (outcome_of files_row))
      (λ y. y)
      (λ n. is_done_lem (outcome_of files_row) (sym (ap (λ (x : Reduced). x.outcome.number) (given_refused k n)) ∙ z))

  -- reduction refuses
  pub plans_early : (first.outcome.number ≡ 0 → ⊥) → (table : List Entry) (plan : List ℕ) → Plans task level signer (lent before table plan) (unplanned first.outcome) (lent after table plan)
  unfolding plan_stages
  plans_early d table plan =
      let n = row_refused d in
      let is : first.outcome ≡ outcome_of files_row = ap (λ (x : Reduced). x.outcome) (given_refused k n) in
      by_first files_row (search_stages u (plan_found task taken) signer (search_buffers table plan)) _ _ before n (ap unplanned is) (λ i. lent (k.buffers i) table plan)

  -- reduction is done: its files say what they should
  module _ (z : first.outcome.number ≡ 0) (octets : Octets task) (small : signer < 2 ^ 32) where
    checked : ((check_task task).number ≡ 0) × (leb 1 signer ≡ true)
    unfolding reduce_stages reduce_input
    checked =
        let marks = (both_done _ _ (done_number (outcome_of files_row) (row_done z))).0 in
        let input = (both_done (reduce_input task taken signer) _ marks).0 in
        let read = both_done (check_task task) _ input in
        let valid = passed (valid_reduction taken) 8 0 _ (omega arith) read.1 in
        (read.0, (passed (leb 1 signer) 7 0 _ (omega arith) valid.1).0)

    accepted : accepted_task t ≡ true
    accepted = task_accepted task octets checked.0

    signed : valid_signer signer ≡ true
    unfolding valid_signer
    signed = and_join checked.1 (le-leb _ _ small)

    files : FilesPreserve task taken signer
    files = reduction_of_files task taken signer octets (task_check_done task checked.0) signed

    abbrev reduced_bytes : List ℕ
    reduced_bytes = reduced_file t taken signer

    abbrev origin_bytes : List ℕ
    origin_bytes = origins_file t taken signer

    same_task_lem : task_of reduced_bytes ≡ u
    unfolding searched
    same_task_lem = (task_read_as reduced_bytes (reduced_task t taken) signer files.reduced_reads).1

    same_origin : origin_of origin_bytes ≡ origins_at t taken
    same_origin = (origin_read_as origin_bytes (origins_at t taken) signer files.origin_reads).1

    same_numbers : by_origin_file origin_bytes ≡ by_original t taken
    unfolding by_original by_origin_file
    same_numbers = ap (λ (o : Origin). λ plan. map (λ n. get_or o.actions n 0) plan) same_origin

    -- the numbers of reduction, and what its buffers hold
    numbers : first ≡ reduce_whole t taken signer
    numbers = given_whole k (row_done z)

    filled : after ≡ with_files t taken signer before
    unfolding reduce_stages
    filled = k.buffers ∙ left_last (_ ∷ []) _ before (row_done z)

    -- the parts of the buffers that hold the files
    part : (n : ℕ) (file new old : List ℕ) → n ≡ length file → new ≡ overwrite old file → take n new ≡ file
    unfolding overwrite
    part n file new old e q = ap₂ (λ (m : ℕ) (l : List ℕ). take m l) e q ∙ take-append_seam file _

    room_for : (n : ℕ) (file new old : List ℕ) → n ≡ length file → new ≡ overwrite old file → n ≤ length new
    unfolding overwrite
    room_for n file new old e q = omega (arith, ap length q, length-append file (drop (length file) old))

    abbrev file : List ℕ
    file = take first.reduced after.reduced

    abbrev origins : List ℕ
    origins = take first.origin after.origin

    f : file ≡ reduced_bytes
    f = part first.reduced reduced_bytes after.reduced before.reduced (ap (λ (x : Reduced). x.reduced) numbers) (ap (λ (x : Buffers). x.reduced) filled)

    g : origins ≡ origin_bytes
    g = part first.origin origin_bytes after.origin before.origin (ap (λ (x : Reduced). x.origin) numbers) (ap (λ (x : Buffers). x.origin) filled)

    -- what the search asks of the files
    enough_numbers : action_count (task_of file) ≤ length (origin_of origins).actions
    enough_numbers =
        let actions : action_count (task_of file) ≡ action_count (task_of reduced_bytes) = ap (λ (x : List ℕ). action_count (task_of x)) f in
        let numbers : length (origin_of origins).actions ≡ length (origin_of origin_bytes).actions = ap (λ (x : List ℕ). length (origin_of x).actions) g in
        omega (arith, files.as_many)

    files_written : FilesWritten first after.reduced after.origin
    files_written =
        record {
          reduced_fits = room_for first.reduced reduced_bytes after.reduced before.reduced (ap (λ (x : Reduced). x.reduced) numbers) (ap (λ (x : Buffers). x.reduced) filled);
          origin_fits = room_for first.origin origin_bytes after.origin before.origin (ap (λ (x : Reduced). x.origin) numbers) (ap (λ (x : Buffers). x.origin) filled);
          checked = ap check_task f ∙ (task_read_as reduced_bytes (reduced_task t taken) signer files.reduced_reads).0;
          numbers = enough_numbers;
        }

    -- the search of the reduced task, by original numbers
    module _ (b now : SearchBuffers) (found : Found) (w : Searches (task_of file) (by_origin_file origins) signer b found now) where
      searches : Searches u (by_original t taken) signer b found now
      searches =
          subst (λ (h : List ℕ → List ℕ). Searches u h signer b found now) (ap by_origin_file g ∙ same_numbers)
          (subst (λ (x : Task). Searches x (by_origin_file origins) signer b found now) (ap task_of f ∙ same_task_lem) w)

      abbrev search_row : List (Stage SearchBuffers)
      search_row = search_stages u (plan_found task taken) signer b

      -- the plan by original numbers
      made : plan_made task taken ≡ by_original t taken (found_plan u)
      unfolding plan_made plan_found found_plan by_original
      made = split_option (first_plan u) (λ e. rw e refl) (λ p e. rw e refl)

      -- where all is done
      module _ (y : is_done (outcome_of search_row) ≡ true) where
        stages : ((states_fit u (length b.table)).number ≡ 0) × ((plan_fits (plan_found task taken) signer (length b.plan)).number ≡ 0)
        unfolding search_stages
        stages =
            let both = both_done (states_fit u (length b.table)) _ (done_number _ y) in
            (both.0, (both_done (plan_fits (plan_found task taken) signer (length b.plan)) _ both.1).0)

        plan_there : (plan : List ℕ) × (first_plan u ≡ some plan)
        unfolding plan_fits plan_found
        plan_there =
            split_option (first_plan u)
            (λ e.
            let q : (plan_fits (Option.map (by_original t taken) none) signer (length b.plan)).number ≡ 0 =
            ap (λ (p : Option (List ℕ)). (plan_fits (Option.map (by_original t taken) p) signer (length b.plan)).number) (sym e) ∙ stages.1 in
            absurd (let k : ◌≡◌ {A = ℕ} 24 0 = q in omega arith))
            (λ p e. (p, e))

        valid : Valid u
        unfolding searched
        valid = task_valid (reduced_task t taken) (reduction_accepted t taken accepted)

        found_plan_lem : IsPlan u (found_plan u)
        found_plan_lem =
            let p = plan_there.0 in
            let e = plan_there.1 in
            let w : PlanFirst u (some p) = subst (PlanFirst u) e (search_least u valid).plan in
            subst (IsPlan u) (sym (plan_is u p e)) w.0.best.is_plan

        totals : total_of u (found_plan u) ≡ total_of t (plan_made task taken)
        unfolding searched
        totals = sym (ap (total_of t) made ∙ ((reduction_preserves t taken accepted).plan_back (found_plan u) found_plan_lem).1)

        whole_is : both_together (reduce_whole t taken signer) (found_whole u (by_original t taken) signer) ≡ plan_whole task taken signer
        unfolding both_together is_done searched_states
        whole_is =
            λ i. record {
              outcome = done;
              action_marks = (plan_whole task taken signer).action_marks;
              fact_marks = (plan_whole task taken signer).fact_marks;
              reduced = (plan_whole task taken signer).reduced;
              origin = (plan_whole task taken signer).origin;
              table = (plan_whole task taken signer).table;
              plan = ap (λ (p : List ℕ). length (plan_file p signer)) (sym made) i;
              rounds = (plan_whole task taken signer).rounds;
              turns = (plan_whole task taken signer).turns;
              cost = record { 0 = (totals i).minutes };
              steps = record { 0 = (totals i).steps };
            }

      search_whole : is_done (outcome_of search_row) ≡ true → found ≡ found_whole u (by_original t taken) signer
      unfolding plan_found
      search_whole y = given_whole searches y

      search_refused : is_done (outcome_of search_row) ≡ false → found ≡ not_found (found_states u (length b.table)) (outcome_of search_row)
      unfolding plan_found
      search_refused n = given_refused searches n

      answer_is : (p : Planned) → p ≡ both_together first found → p ≡ answer_by search_row (plan_whole task taken signer) unplanned
      unfolding both_together
      answer_is p q =
          split (is_done (outcome_of search_row))
          (λ y. rw y (q ∙ ap₂ both_together numbers (search_whole y) ∙ whole_is y))
          (λ n.
          let no : found.outcome ≡ outcome_of search_row = ap (λ (x : Found). x.outcome) (search_refused n) in
          rw n (q ∙ rw (ap is_done no ∙ n) (ap unplanned no)))

      search_buffers_lem : now ≡ left_by search_row b
      unfolding plan_found
      search_buffers_lem = searches.buffers

      plans_late : (p : Planned) → p ≡ both_together first found → Plans task level signer (lent before b.table b.plan) p (lent after now.table now.plan)
      unfolding plan_stages
      plans_late p q =
          by_second files_row search_row _ _ before (row_done z) b now
          (λ i. lent ((sym k.buffers ∙ filled) i) b.table b.plan)
          (λ i. lent (filled i) now.table now.plan)
          (record { answer = answer_is p q; buffers = search_buffers_lem })

  module _ (octets : Octets task) (small : signer < 2 ^ 32) (z : first.outcome.number ≡ 0) where
    pub can_search_files : FilesWritten first after.reduced after.origin
    can_search_files = files_written z octets small

    pub plans_both : (b now : SearchBuffers) (found : Result PlanFound Refusal) → SearchesFiles first after.reduced after.origin signer b found now
        → (p : Planned) → p ≡ both_together first (found_of (found_states (task_of (take first.reduced after.reduced)) (length b.table)) found)
        → Plans task level signer (lent before b.table b.plan) p (lent after now.table now.plan)
    plans_both b now found w p q = plans_late z octets small b now _ w p q
