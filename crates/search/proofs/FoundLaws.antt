-- The search of one task by its stages, from what its parts came to.
use Prim.Native.Nat.{ℕ, ◌+◌, ◌*◌, ◌≤◌, ◌<◌}
use mathlib.Core.Path.{◌≡◌, refl, sym, ap, ap₂, subst, ◌∙◌}
use mathlib.Core.Bool.{true, false}
use mathlib.Core.List.{List, [], ◌++◌}
use mathlib.Core.Option
use mathlib.Core.Option.{Option, none, some, map}
use native.Mathlib.Omega.{arith}
use lib.Dec.{leb}
use lib.ListN.{length, get_or, take, drop, length-take, length-map, get_or-eq_default}
use lib.Seq.{get_or-take, take-append_seam}
use borrow.Author.Tests.{leb-true}
use Rattle.files.specs.Outcome.{Outcome, done, refusal, is_done, fits, overwrite}
use Rattle.files.specs.Accepted.{accepted_task}
use Rattle.files.specs.Bytes.{Octets}
use Rattle.files.specs.Dense.{held}
use Rattle.files.specs.declared.arrays.Arrays.{Arrays}
use Rattle.files.specs.OriginFile.{origin_of, origin_actions_place}
use Rattle.files.specs.PlanFile.{plan_file}
use Rattle.files.specs.Task.{Task}
use Rattle.files.specs.TaskFile.{task_of}
use Rattle.files.proofs.Guards.{goes_le, stops_le, passed, is_refused}
use Rattle.files.proofs.HeldTask.{actions_held}
use Rattle.files.proofs.Logic.{split_le}
use Rattle.files.proofs.Lengths.{plan_file_length}
use Rattle.files.proofs.Stages.{is_yes, by_end, by_stop, by_next}
use Rattle.files.proofs.Valid.{Valid}
use Rattle.plans.specs.Plan.{Total, total_of}
use Rattle.reduction.specs.Reduce.{Reduced}
use Rattle.reduction.specs.Preserved.{by_origin_file}
use Rattle.distances.specs.declared.Entry.{Entry}
use Rattle.lookup.specs.declared.moves.Move.{Move}
use Rattle.search.specs.Found.{Found}
use Rattle.search.specs.ReadOff.{Searched}
use Rattle.distances.specs.States.{state_count}
use Rattle.distances.specs.Table.{minutes_of, distances, table_of, start_number}
use Rattle.search.specs.FirstPlan.{first_plan, found_plan}
use Rattle.std.proofs.lemmas.List.{get_or_default}
use Rattle.distances.specs.Entries.{no_entry, table_entry}
use Rattle.distances.specs.Rows.{Sized, FewStates, Counted}
use Rattle.lookup.specs.Moves.{WeightsOf}
use Rattle.lookup.specs.FactRows.{CheapRow}
use Rattle.search.specs.ReadOff.{StepTables}
use Rattle.search.specs.Planner.{count_fits, states_fit, plan_fits, search_buffers, search_stages}
use Rattle.search.specs.Found.{found_states, not_found, found_whole, Searches, SearchedIn, SearchedFiles}
use Rattle.distances.proofs.HeldStates.{held_variables, held_actions, held_valid, held_states, held_sizes, held_few}
use Rattle.distances.proofs.RowNumbers.{weight_most}
use Rattle.distances.proofs.Radix.{start_below}
use Rattle.search.proofs.ReadOff.{steps_length}
use Rattle.search.proofs.LeastPlans.{steps_read, first_plan_some, search_least}

-- so many states: too many, no room for the table, or done
module _ (count room : ℕ) where
  pub count_many : (o : Outcome) → 4096 < count → o ≡ refusal 25 0 → o ≡ count_fits count room
  unfolding count_fits
  count_many o h e = stops_le count 4096 25 0 _ o _ _ refl refl h e

  pub count_short : (o : Outcome) → count ≤ 4096 → room < count → o ≡ refusal 21 count → o ≡ count_fits count room
  unfolding count_fits fits
  count_short o h k e = goes_le count 4096 25 0 _ o _ _ refl refl h (stops_le count room 21 count _ o _ _ refl refl k e)

  pub count_done : (o : Outcome) → count ≤ 4096 → count ≤ room → o ≡ done → o ≡ count_fits count room
  unfolding count_fits fits
  count_done o h k e = goes_le count 4096 25 0 _ o _ _ refl refl h (goes_le count room 21 count _ o _ _ refl refl k e)

  pub count_inside : (count_fits count room).number ≡ 0 → count ≤ room
  unfolding count_fits fits
  count_inside z =
      let few = passed (leb count 4096) 25 0 _ (omega arith) z in
      leb-true count room (passed (leb count room) 21 count done (omega arith) few.1).0

  pub count_few : (count_fits count room).number ≡ 0 → count ≤ 4096
  unfolding count_fits
  count_few z = leb-true count 4096 (passed (leb count 4096) 25 0 _ (omega arith) z).0

pub states_fit_lem : (t : Task) (room : ℕ) → state_count t.variables ≤ 4096 → state_count t.variables ≤ room → done ≡ states_fit t room
unfolding count_fits
states_fit_lem t room h k = count_done (state_count t.variables) room done h k refl

-- the count of a task's states, or a number that is too many as well
pub counted_fit : (t : Task) (count room : ℕ) → (count ≤ 4096 → count ≡ state_count t.variables) → (4096 < count → 4096 < state_count t.variables)
    → (o : Outcome) → o ≡ count_fits count room → o ≡ states_fit t room
unfolding count_fits
counted_fit t count room few many o e =
    split_le count 4096
    (λ h. e ∙ ap (λ (n : ℕ). count_fits n room) (few h))
    (λ h. e ∙ sym (count_many count room (refusal 25 0) h refl) ∙ count_many (state_count t.variables) room (refusal 25 0) (many h) refl)

-- the states of the task that arrays hold, counted: whether they fit, and that they are few where they do
pub counted_sizes : (d : Arrays) → accepted_task (held d) ≡ true → Sized d.variables d.sizes
counted_sizes d accepted = record { few = held_few d accepted; least = held_sizes d accepted }

module _ (d : Arrays) (accepted : accepted_task (held d) ≡ true) (count room : ℕ) (k : Counted d.variables d.sizes count) where
  pub counted_fits : (o : Outcome) → o ≡ count_fits count room → o ≡ states_fit (held d) room
  counted_fits o e = counted_fit (held d) count room (λ h. k.few h ∙ sym (held_states d)) (λ h. omega (arith, k.many h, held_states d)) o e

  module _ (e : done ≡ count_fits count room) where
    pub counted_few : count ≤ 4096
    counted_few = count_few count room (ap (λ (o : Outcome). o.number) (sym e))

    pub counted_inside : count ≤ room
    counted_inside = count_inside count room (ap (λ (o : Outcome). o.number) (sym e))

    pub counted_is : count ≡ state_count (held d).variables
    counted_is = k.few counted_few ∙ sym (held_states d)

    pub counted_states : FewStates d.variables d.sizes
    counted_states = record { sized = counted_sizes d accepted; states = omega (arith, counted_is, counted_few, held_states d) }

    pub counted_task : state_count (held d).variables ≤ 4096
    counted_task = omega (arith, counted_is, counted_few)

    pub counted_weights : (weights : List ℕ) → WeightsOf d.variables d.sizes weights → (v : ℕ) → v < d.variables → get_or weights v 0 ≤ 4096
    counted_weights weights w v h = omega (arith, w v h, weight_most d.sizes v d.variables (counted_sizes d accepted).least (omega arith), counted_states.states)

    pub counted_start : (start : ℕ) → start ≡ start_number (held d) → start < count
    counted_start start is = omega (arith, counted_is, is, start_below (held d) (held_valid d accepted))

-- the search of a task, from what its parts came to
module _ (t : Task) (original : List ℕ → List ℕ) (signer : ℕ) (table : List Entry) (plan : List ℕ) where
  abbrev found_is : Option (List ℕ)
  found_is = map original (first_plan t)

  -- refused before the search: nothing is filled
  pub search_early : (o : Outcome) → o ≡ states_fit t (length table) → (o.number ≡ 0 → ⊥) → Searches t original signer (search_buffers table plan) (not_found 0 o) (search_buffers table plan)
  unfolding search_stages found_states
  search_early o is d =
      let no : is_done (states_fit t (length table)) ≡ false = ap is_done (sym is) ∙ is_refused o d in
      by_stop no (ap (not_found 0) is ∙ rw no refl) refl

  module _ (e : done ≡ states_fit t (length table)) (now : List Entry) (w : now ≡ overwrite table (table_of t)) where
    fit : is_done (states_fit t (length table)) ≡ true
    fit = is_yes _ (sym e)

    -- no plan, or no room for it: the table is filled
    pub search_late : (o : Outcome) → o ≡ plan_fits found_is signer (length plan) → (o.number ≡ 0 → ⊥)
        → Searches t original signer (search_buffers table plan) (not_found (state_count t.variables) o) (search_buffers now plan)
    unfolding search_stages found_states
    search_late o p d =
        let no : is_done (plan_fits found_is signer (length plan)) ≡ false = ap is_done (sym p) ∙ is_refused o d in
        by_next fit (by_stop no (ap (not_found (state_count t.variables)) p ∙ rw fit refl) (ap (λ (l : List Entry). search_buffers l plan) w))

    -- the plan is written
    pub search_done : done ≡ plan_fits found_is signer (length plan) → (r : Found) → r ≡ found_whole t original signer
        → (file : List ℕ) → file ≡ overwrite plan (plan_file (Option.get_or found_is []) signer)
        → Searches t original signer (search_buffers table plan) r (search_buffers now file)
    unfolding search_stages
    search_done p r q file f = by_next fit (by_next (is_yes _ (sym p)) (by_end q (ap₂ search_buffers w f)))

pub plan_is : (t : Task) (plan : List ℕ) → first_plan t ≡ some plan → found_plan t ≡ plan
unfolding found_plan
plan_is t plan e = rw e refl

-- the plan, where there is one and where there is none
module _ (t : Task) (original : List ℕ → List ℕ) (signer plan_room : ℕ) where
  pub no_plan : (o : Outcome) → first_plan t ≡ none → o ≡ refusal 24 0 → o ≡ plan_fits (map original (first_plan t)) signer plan_room
  unfolding plan_fits
  no_plan o e q = rw e q

  module _ (plan : List ℕ) (e : first_plan t ≡ some plan) where
    pub plan_short : (o : Outcome) (needed : ℕ) → needed ≡ length (plan_file (original plan) signer) → plan_room < needed → o ≡ refusal 21 needed
        → o ≡ plan_fits (map original (first_plan t)) signer plan_room
    unfolding plan_fits fits
    plan_short o needed l h q = rw (e, ← l) (stops_le needed plan_room 21 needed done o _ _ refl refl h q)

    pub plan_fits_lem : (needed : ℕ) → needed ≡ length (plan_file (original plan) signer) → needed ≤ plan_room → done ≡ plan_fits (map original (first_plan t)) signer plan_room
    unfolding plan_fits fits
    plan_fits_lem needed l h = rw (e, ← l) (goes_le needed plan_room 21 needed done done _ _ refl refl h refl)

-- the plan where the start state has an entry: its file's length, its cost and steps
module _ (t : Task) (valid : Valid t) (x : Total) (e : get_or (distances t) (start_number t) none ≡ some x) where
  pub read_plan_lem : first_plan t ≡ some (steps_read t)
  read_plan_lem = first_plan_some t x e

  pub read_total : total_of t (found_plan t) ≡ x
  read_total =
      let q : some x ≡ map (total_of t) (some (steps_read t)) = sym e ∙ (search_least t valid).total ∙ ap (map (total_of t)) read_plan_lem in
      ap (total_of t) (plan_is t (steps_read t) read_plan_lem) ∙ cc

  pub read_needed : (origin : List ℕ) (signer needed : ℕ) → needed ≡ 16 + 2 * x.steps → needed ≡ length (plan_file (by_origin_file origin (steps_read t)) signer)
  unfolding by_origin_file
  read_needed origin signer needed n =
      let l = steps_length t valid (start_number t) x (start_below t valid) e in
      let m = length-map (steps_read t) (λ k. get_or (origin_of origin).actions k 0) in
      omega (arith, plan_file_length (by_origin_file origin (steps_read t)) signer)

  pub read_length : (origin : List ℕ) (signer needed : ℕ) → needed ≡ 16 + 2 * x.steps → needed ≡ length (plan_file (by_origin_file origin (found_plan t)) signer)
  read_length origin signer needed n =
      read_needed origin signer needed n ∙ ap (λ (p : List ℕ). length (plan_file (by_origin_file origin p) signer)) (sym (plan_is t (steps_read t) read_plan_lem))

-- the plan by other numbers, where there is one
pub plan_made_lem : (t : Task) (plan : List ℕ) (original : List ℕ → List ℕ) → first_plan t ≡ some plan → Option.get_or (map original (first_plan t)) [] ≡ original (Option.get_or (first_plan t) [])
plan_made_lem t plan original e = rw e refl

-- a table whose first states were searched
pub front_searched : (table new : List Entry) (n : ℕ) → length new ≡ n → (take n (new ++ drop n table) ≡ new) × (new ++ drop n table ≡ overwrite table (take n (new ++ drop n table)))
unfolding overwrite
front_searched table new n same =
    let front : take n (new ++ drop n table) ≡ new = ap (λ (m : ℕ). take m (new ++ drop n table)) (sym same) ∙ take-append_seam new (drop n table) in
    (front, rw front (ap (λ (l : List Entry). new ++ l) (ap (λ (m : ℕ). drop m table) (sym same))))

pub front_entry : (table : List Entry) (n s : ℕ) (e : Entry) → s < n → s < length table → get_or table s e ≡ table_entry (take n table) s
unfolding table_entry
front_entry table n s e h k = get_or_default table s e no_entry k ∙ sym (get_or-take n table s no_entry h)

-- the search of the task that arrays hold: refused, and done
pub searched_refused : (t : Task) (named place : ℕ) (o : Outcome) (table : List Entry) → o ≡ states_fit t (length table) → (o.number ≡ 0 → ⊥)
    → (r : Searched) (sizes costs rows : List ℕ) (moves : List Move) → SearchedIn t named place o r table table sizes costs rows moves
searched_refused t named place o table e d r sizes costs rows moves =
    record { outcome = e; untouched = λ _. refl; front = λ z. absurd (d z); found = λ z. absurd (d z); named_is = λ z. absurd (d z); place_is = λ z. absurd (d z) }

pub searched_done : (d : Arrays) (named place : ℕ) → accepted_task (held d) ≡ true → state_count (held d).variables ≤ 4096
    → (o : Outcome) (table : List Entry) → o ≡ states_fit (held d) (length table) → o.number ≡ 0 → (states start : ℕ) → states ≡ state_count (held d).variables → start ≡ start_number (held d)
    → (now : List Entry) → now ≡ overwrite table (take states now) → take states now ≡ table_of (held d)
    → (rows : List ℕ) (moves : List Move) → StepTables d.variables d.actions d.sizes d.costs d.conditions d.effects rows moves
    → CheapRow d.actions d.costs (minutes_of (table_entry (take states now) start)) rows
    → SearchedIn (held d) named place o (record { states = states; start = start; variables = d.variables; actions = d.actions; named = named; place = place })
    table now d.sizes d.costs rows moves
searched_done d named place accepted few o table fit_is z states start n s now front is rows moves tables cheap =
    record {
      outcome = fit_is;
      untouched = λ k. absurd (k z);
      front = λ _. front;
      found = λ _.
          record {
            accepted = accepted;
            few = few;
            states = n;
            start = s;
            stepped =
                record {
                  starts = d.starts;
                  conditions = d.conditions;
                  effects = d.effects;
                  tables = tables;
                  variables_are = held_variables d;
                  count = sym (actions_held d);
                  actions_are = λ a h. held_actions d a (omega (arith, actions_held d));
                };
            cheap = cheap;
            table = is;
          };
      named_is = λ _. refl;
      place_is = λ _. refl;
    }

pub part_octets : (n : ℕ) (buffer : List ℕ) → Octets buffer → Octets (take n buffer)
part_octets n buffer octets i =
    split_le n i
    (λ h. let past : length (take n buffer) ≤ i = omega (arith, length-take n buffer) in omega (arith, get_or-eq_default (take n buffer) 0 past))
    (λ h. omega (arith, get_or-take n buffer i 0 h, octets i))

-- the search of the reduced file's task
pub searched_files : (first : Reduced) (reduced origin : List ℕ) (o : Outcome) (r : Searched) (table now : List Entry) (sizes costs rows : List ℕ) (moves : List Move)
    → (h : Task) → h ≡ task_of (take first.reduced reduced) → (place : ℕ) → place ≡ origin_actions_place (take first.origin origin) → place < 8589934592
    → SearchedIn h first.origin place o r table now sizes costs rows moves → SearchedFiles first reduced origin o r table now sizes costs rows moves
searched_files first reduced origin o r table now sizes costs rows moves h is place p few k =
    record {
      searched_in =
          subst (λ (x : Task). SearchedIn x first.origin (origin_actions_place (take first.origin origin)) o r table now sizes costs rows moves) is
          (subst (λ (n : ℕ). SearchedIn h first.origin n o r table now sizes costs rows moves) p k);
      place_few = λ z. omega (arith, k.place_is z);
    }
