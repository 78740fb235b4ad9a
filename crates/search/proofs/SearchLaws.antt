-- The search of the reduced file's task, from what its parts came to: the entries in the table, and the plan file begun, written and ended.
use Prim.Native.Nat.{ℕ, ◌+◌, ◌*◌, ◌≤◌, ◌<◌}
use mathlib.Core.Path.{◌≡◌, refl, sym, ap, subst, ◌∙◌}
use mathlib.Core.Bool.{false}
use mathlib.Core.List.{List}
use mathlib.Core.Option.{none, some, map}
use native.Mathlib.Omega.{arith}
use lib.Dec.{leb}
use lib.ListN.{length, get_or, take}
use borrow.Author.Tests.{leb-true}
use Rattle.files.specs.Outcome.{Outcome, done, refused, is_done, fits, overwrite}
use Rattle.files.specs.Bytes.{placed}
use Rattle.files.specs.OriginFile.{origin_of, origin_actions_place}
use Rattle.files.specs.declared.refusals.Refusal.{Refusal}
use Rattle.std.specs.Prelude.{Result, Ok, Err}
use Rattle.std.specs.Result.{IsErrAnd}
use Rattle.files.proofs.Stages.{is_yes}
use Rattle.files.specs.PlanFile.{plan_file}
use Rattle.files.specs.Records.{number_bytes}
use Rattle.files.specs.Task.{Task}
use Rattle.files.specs.TaskFile.{task_of}
use Rattle.files.proofs.Guards.{is_done_lem, refused_stands, refused_number, passed}
use Rattle.files.proofs.Logic.{split, split_le}
use Rattle.files.proofs.Valid.{Valid, task_valid}
use Rattle.plans.specs.Plan.{Total, no_steps, total_of}
use Rattle.plans.specs.State.{all_hold}
use Rattle.reduction.specs.Reduce.{Reduced}
use Rattle.reduction.specs.Preserved.{by_origin_file}
use Rattle.distances.specs.declared.Entry.{Entry}
use Rattle.lookup.specs.declared.moves.Move.{Move}
use Rattle.search.specs.Found.{Found}
use Rattle.search.specs.ReadOff.{Searched}
use Rattle.distances.specs.States.{state_count, state_at}
use Rattle.distances.specs.Table.{minutes_of, steps_of, entry_of, distances, table_of, start_number}
use Rattle.search.specs.FirstPlan.{first_plan, found_plan}
use Rattle.distances.specs.Entries.{is_none, entry_total, table_entry}
use Rattle.distances.specs.Rows.{row_states}
use Rattle.lookup.specs.FactRows.{CheapRow}
use Rattle.search.specs.ReadOff.{CanStep, StepsToWrite, PlanIn, StepsWritten}
use Rattle.search.specs.Planner.{count_fits, states_fit, plan_fits, search_buffers}
use Rattle.search.specs.declared.stages.PlanFound.{PlanFound}
use Rattle.search.specs.Found.{not_found, found_of, found_states, found_whole, Searches, FilesWritten, SearchesFiles, TableFound, SearchedFiles, plan_by, signed_off, Begins}
use Rattle.distances.proofs.Radix.{start_below}
use Rattle.distances.proofs.RowNumbers.{states_count}
use Rattle.distances.proofs.Distances.{steps_few}
use Rattle.search.proofs.ReadOff.{leads_on, goal_no_steps, steps_length}
use Rattle.search.proofs.TableEntries.{filled_at, table_length, table_entry_lem, entry_low, start_none, start_distance}
use Rattle.search.proofs.LeastPlans.{steps_read}
use Rattle.search.proofs.FoundLaws.{states_fit_lem, search_early, search_late, search_done, no_plan, plan_short, plan_fits_lem, read_plan_lem, read_total, read_needed, read_length, plan_made_lem, plan_is}
use Rattle.search.proofs.PlanFiles.{whole, plan_none, plan_room, plan_whole_lem, not_headed, found_up, file_written}

module _ (first : Reduced) (reduced origin : List ℕ) (table : List Entry) (o : Outcome) (searched : Searched) (now : List Entry) (sizes costs rows : List ℕ) (moves : List Move)
    (k : SearchedFiles first reduced origin o searched table now sizes costs rows moves) where
  abbrev t : Task
  t = task_of (take first.reduced reduced)

  abbrev origins : List ℕ
  origins = take first.origin origin

  abbrev look : ℕ → Entry
  look = table_entry now

  abbrev e : Entry
  e = look searched.start

  -- the table is filled
  module _ (z : o.number ≡ 0) where
    found : TableFound t searched (take searched.states now) sizes costs rows moves
    found = k.searched_in.found z

    valid : Valid t
    valid = task_valid t found.accepted

    fit_number : (states_fit t (length table)).number ≡ 0
    fit_number = ap (λ (o : Outcome). o.number) (sym k.searched_in.outcome) ∙ z

    states_inside : state_count t.variables ≤ length table
    unfolding count_fits fits
    states_inside =
        let few = passed (leb (state_count t.variables) 4096) 25 0 _ (omega arith) fit_number in
        let short = passed (leb (state_count t.variables) (length table)) 21 (state_count t.variables) done (omega arith) few.1 in
        leb-true _ _ short.0

    fit : done ≡ states_fit t (length table)
    fit = states_fit_lem t (length table) found.few states_inside

    now_is : now ≡ overwrite table (table_of t)
    now_is = k.searched_in.front z ∙ ap (overwrite table) found.table

    entries_are : (s : ℕ) → s < state_count t.variables → look s ≡ entry_of (get_or (distances t) s none)
    entries_are s h = ap (λ (l : List Entry). table_entry l s) now_is ∙ table_entry_lem t table s h

    states_are : state_count t.variables ≡ row_states searched.variables sizes
    states_are = ap state_count found.stepped.variables_are ∙ sym (states_count sizes found.stepped.starts searched.variables)

    start_inside : searched.start < state_count t.variables
    start_inside = omega (arith, found.start, start_below t valid)

    named_is : searched.named ≡ first.origin
    named_is = k.searched_in.named_is z

    same_origins : take searched.named origin ≡ origins
    same_origins = ap (λ (n : ℕ). take n origin) named_is

    -- there is a plan
    module _ (near : is_none e ≡ false) where
      start_total : get_or (distances t) (start_number t) none ≡ some (entry_total e)
      start_total = start_distance t look entries_are valid found.few searched.start found.start near

      here_total : get_or (distances t) searched.start none ≡ some (entry_total e)
      here_total = ap (λ (n : ℕ). get_or (distances t) n none) found.start ∙ start_total

      some_action : 0 < steps_of e → 0 < searched.actions
      unfolding no_steps
      some_action more =
          let not_goal : all_hold t.goal (state_at t.variables searched.start) ≡ false =
          split (all_hold t.goal (state_at t.variables searched.start))
          (λ y. absurd (omega (arith, ap (λ (x : Total). x.steps) (goal_no_steps t valid searched.start (entry_total e) start_inside here_total y))))
          (λ n. n) in
          omega (arith, (leads_on t valid searched.start (entry_total e) start_inside here_total not_goal).below, found.stepped.count)

      start_minutes : minutes_of (table_entry (take searched.states now) searched.start) ≡ minutes_of e
      start_minutes =
          ap minutes_of
          (sym
          (ap (λ (l : List Entry). table_entry l searched.start) (k.searched_in.front z)
          ∙ filled_at table (take searched.states now) searched.start (omega (arith, ap (λ (l : List Entry). length l) found.table, table_length t, start_inside))))

      plan_in : (steps : ℕ) → steps ≡ steps_of e → PlanIn t look steps searched sizes costs rows moves
      plan_in steps n =
          record {
            accepted = found.accepted;
            few = found.few;
            stepped = found.stepped;
            entries_are = entries_are;
            start_is = found.start;
            reached = near;
            cheap = subst (λ (n : ℕ). CheapRow searched.actions costs n rows) start_minutes found.cheap;
            steps_are = n;
          }

      can_step : FilesWritten first reduced origin → (plan : List ℕ) (steps : ℕ) → steps ≡ steps_of e → 0 < steps → 16 + 2 * steps ≤ length plan
          → CanStep look plan steps searched origin sizes costs rows moves
      can_step w plan steps n more room =
          record {
            conditions = found.stepped.conditions;
            effects = found.stepped.effects;
            tables = found.stepped.tables;
            start_below = omega (arith, start_inside, states_are);
            low = λ s h. entry_low t look entries_are valid found.few s (omega (arith, states_are));
            more = some_action (omega arith);
            few = omega (arith, steps_few t valid searched.start (entry_total e) start_inside here_total, found.few);
            room = room;
            named_fits = omega (arith, named_is, w.origin_fits);
            place_is = k.searched_in.place_is z ∙ ap (λ (l : List ℕ). origin_actions_place l) (sym same_origins);
            place_few = k.place_few z;
            numbers = omega (arith, found.stepped.count, w.numbers, ap (λ (l : List ℕ). length (origin_of l).actions) same_origins);
          }

    module _ (signer : ℕ) (plan : List ℕ) where
      abbrev Searched_to : Found → List ℕ → Type 0
      Searched_to f file = Searches t (by_origin_file origins) signer (search_buffers table plan) f (search_buffers now file)

      -- no plan, or no room for it
      module _ (plan₁ : List ℕ) (r : Refusal) (b : Begins searched.states e plan (Err r) plan₁) (x : Result PlanFound Refusal) (up : IsErrAnd x (λ y. y ≡ r)) where
        filled_states : found_states t (length table) ≡ state_count t.variables
        unfolding found_states
        filled_states = rw (is_yes _ (sym fit)) refl

        answer_late : found_of (found_states t (length table)) x ≡ not_found (state_count t.variables) (refused r)
        answer_late = found_up (found_states t (length table)) x r up ∙ ap (λ (n : ℕ). not_found n (refused r)) filled_states

        same_plan : plan₁ ≡ plan
        same_plan = b.begun ∙ not_headed (not_found searched.states (refused r)) (refused_stands r) plan

        late : refused r ≡ plan_fits (map (by_origin_file origins) (first_plan t)) signer (length plan) → Searched_to (found_of (found_states t (length table)) x) plan₁
        late p =
            let w = search_late t (by_origin_file origins) signer table plan fit now now_is (refused r) p (refused_number r) in
            record { answer = answer_late ∙ w.answer; buffers = ap (search_buffers now) same_plan ∙ w.buffers }

        outcome_is : (f : Found) → plan_by searched.states e (length plan) ≡ f → refused r ≡ f.outcome
        outcome_is f q = ap (λ (y : Found). y.outcome) (b.found ∙ q)

        pub searches_refused : SearchesFiles first reduced origin signer (search_buffers table plan) x (search_buffers now plan₁)
        searches_refused =
            split (is_none e)
            (λ far.
            late
            (no_plan t (by_origin_file origins) signer (length plan) (refused r) (start_none t look entries_are valid found.few searched.start found.start far)
            (outcome_is _ (plan_none searched.states e (length plan) far))))
            (λ near.
            let read = read_plan_lem t valid (entry_total e) (start_total near) in
            split_le (16 + 2 * steps_of e) (length plan)
            (λ h. absurd (refused_number r (ap (λ (y : Outcome). y.number) (outcome_is _ (plan_whole_lem searched.states e (length plan) near h)))))
            (λ h.
            late
            (plan_short t (by_origin_file origins) signer (length plan) (steps_read t) read (refused r) (16 + 2 * steps_of e)
            (read_needed t valid (entry_total e) (start_total near) origins signer (16 + 2 * steps_of e) refl) h
            (outcome_is _ (plan_room searched.states e (length plan) near h)))))

      -- the plan's file is begun
      module _ (plan₁ : List ℕ) (x : PlanFound) (b : Begins searched.states e plan (Ok x) plan₁) where
        abbrev begun : Found
        begun = found_of searched.states (Ok x)

        whole_is : (is_none e ≡ false) × (16 + 2 * steps_of e ≤ length plan) × (begun ≡ whole searched.states e (length plan))
        whole_is =
            split (is_none e)
            (λ far. absurd (let q = ap (λ (y : Found). y.outcome.number) (b.found ∙ plan_none searched.states e (length plan) far) in omega (arith, q)))
            (λ near.
            split_le (16 + 2 * steps_of e) (length plan)
            (λ h. (near, h, b.found ∙ plan_whole_lem searched.states e (length plan) near h))
            (λ h. absurd (let q = ap (λ (y : Found). y.outcome.number) (b.found ∙ plan_room searched.states e (length plan) near h) in omega (arith, q))))

        steps_is : x.steps.0 ≡ steps_of e
        steps_is = ap (λ (y : Found). y.steps.0) whole_is.2

        pub can_end : 16 + 2 * x.steps.0 ≤ length plan
        can_end = omega (arith, steps_is, whole_is.1)

        pub can_steps : FilesWritten first reduced origin → length plan₁ ≡ length plan → StepsToWrite look plan₁ x.steps.0 searched origin sizes costs rows moves
        can_steps written same more = can_step whole_is.0 written plan₁ x.steps.0 steps_is more (omega (arith, can_end))

        -- the plan is written
        module _ (plan₂ : List ℕ) (steps : StepsWritten look plan₁ x.steps.0 searched origin sizes costs rows moves plan₂) (plan₃ : List ℕ) (ended : plan₃ ≡ signed_off signer x.steps.0 plan₂) where
          total : total_of t (found_plan t) ≡ entry_total e
          total = read_total t valid (entry_total e) (start_total whole_is.0)

          read : first_plan t ≡ some (steps_read t)
          read = read_plan_lem t valid (entry_total e) (start_total whole_is.0)

          found_whole_lem : begun ≡ found_whole t (by_origin_file origins) signer
          found_whole_lem =
              let bytes = read_length t valid (entry_total e) (start_total whole_is.0) origins signer (16 + 2 * steps_of e) refl in
              let states = found.states in
              let answer : whole searched.states e (length plan) ≡ found_whole t (by_origin_file origins) signer =
              λ i. record { outcome = done; states = states i; plan = bytes i; cost = record { 0 = (sym total i).minutes }; steps = record { 0 = (sym total i).steps } } in
              whole_is.2 ∙ answer

          steps_of_lem : length (found_plan t) ≡ steps_of e
          steps_of_lem =
              ap length (plan_is t (steps_read t) read)
              ∙ steps_length t valid (start_number t) (entry_total e) (start_below t valid) (start_total whole_is.0)

          file_is : plan₃ ≡ overwrite plan (plan_file (by_origin_file origins (found_plan t)) signer)
          file_is =
              file_written t origins plan plan₁ plan₂ plan₃ (steps_of e) signer begun (is_done_lem done refl) steps_is steps_of_lem whole_is.1 b.begun
              (steps.steps_of_lem t (plan_in whole_is.0 x.steps.0 steps_is) ∙ ap (λ (l : List ℕ). placed plan₁ 4 (number_bytes (by_origin_file l (found_plan t)))) same_origins)
              (ended ∙ ap (λ (n : ℕ). signed_off signer n plan₂) steps_is)

          pub searches_done : SearchesFiles first reduced origin signer (search_buffers table plan) (Ok x) (search_buffers now plan₃)
          unfolding found_plan
          searches_done =
              search_done t (by_origin_file origins) signer table plan fit now now_is
              (plan_fits_lem t (by_origin_file origins) signer (length plan) (steps_read t) read (16 + 2 * steps_of e)
              (read_needed t valid (entry_total e) (start_total whole_is.0) origins signer (16 + 2 * steps_of e) refl) whole_is.1) begun found_whole_lem plan₃
              (file_is ∙ ap (λ (l : List ℕ). overwrite plan (plan_file l signer)) (sym (plan_made_lem t (steps_read t) (by_origin_file origins) read)))

-- too many states, or no room for the table
pub searches_not : (first : Reduced) (reduced origin : List ℕ) (signer : ℕ) (table now : List Entry) (plan : List ℕ) (r : Refusal) (searched : Searched) (sizes costs rows : List ℕ) (moves : List Move)
    → SearchedFiles first reduced origin (refused r) searched table now sizes costs rows moves → (x : Result PlanFound Refusal) → IsErrAnd x (λ y. y ≡ r)
    → SearchesFiles first reduced origin signer (search_buffers table plan) x (search_buffers now plan)
unfolding found_states
searches_not first reduced origin signer table now plan r searched sizes costs rows moves k x up =
    let t = task_of (take first.reduced reduced) in
    let no : is_done (states_fit t (length table)) ≡ false = ap is_done (sym k.searched_in.outcome) ∙ refused_stands r in
    let w = search_early t (by_origin_file (take first.origin origin)) signer table plan (refused r) k.searched_in.outcome (refused_number r) in
    let answer : found_of (found_states t (length table)) x ≡ not_found 0 (refused r) = found_up (found_states t (length table)) x r up ∙ rw no refl in
    record { answer = answer ∙ w.answer; buffers = ap (λ (l : List Entry). search_buffers l plan) (k.searched_in.untouched (refused_number r)) ∙ w.buffers }
