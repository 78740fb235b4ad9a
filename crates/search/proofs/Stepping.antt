-- The steps of a plan written one by one: what holds between them, that a step keeps it, and that it ends in the plan.
use Prim.Native.Nat.{ℕ, suc, ◌+◌, ◌*◌, ◌-◌, ◌≤◌, ◌<◌}
use mathlib.Core.Path.{◌≡◌, refl, sym, ap, ap₂, ◌∙◌}
use mathlib.Core.Bool.{false}
use mathlib.Core.List.{List, [], ◌∷◌, ◌++◌}
use mathlib.Core.Option.{none, some}
use native.Mathlib.Omega.{arith}
use lib.ListN.{length, get_or, take}
use Rattle.files.specs.Bytes.{placed, u16_bytes}
use Rattle.files.specs.OriginFile.{origin_of}
use Rattle.files.specs.Records.{number_bytes}
use Rattle.files.specs.Task.{Task, action_of}
use Rattle.files.proofs.Countdown.{one_more}
use Rattle.files.proofs.Logic.{split}
use Rattle.files.proofs.Placed.{placed_length}
use Rattle.files.proofs.Valid.{Valid, task_valid}
use Rattle.files.proofs.Writing.{placed_u16_then}
use Rattle.plans.specs.Plan.{Total, no_steps, add_step}
use Rattle.plans.specs.State.{all_hold}
use Rattle.reduction.specs.Preserved.{by_origin_file}
use Rattle.distances.specs.States.{state_count, state_at}
use Rattle.distances.specs.Table.{minutes_of, distances, next_state, start_number}
use Rattle.lookup.specs.declared.moves.Move.{Move}
use Rattle.search.specs.declared.first_plan.Here.{Here}
use Rattle.search.specs.FirstPlan.{steps_from, found_plan}
use Rattle.distances.specs.declared.Entry.{Entry}
use Rattle.search.specs.declared.first_plan.Step.{Step}
use Rattle.search.specs.ReadOff.{Searched}
use Rattle.distances.specs.Entries.{entry_total}
use Rattle.distances.specs.Rows.{row_states}
use Rattle.search.specs.ReadOff.{HereOf, CanKnow, goes_by, CanLead, Leads, FirstLed, CanPut, StepPut, CanStep, StepsToWrite, PlanIn, StepsWritten}
use Rattle.distances.proofs.Radix.{start_below}
use Rattle.distances.proofs.RowNumbers.{states_count}
use Rattle.distances.proofs.Distances.{steps_few, minutes_few}
use Rattle.search.proofs.ReadOff.{tight, action_from, LeadsOn, leads_on, steps_more, goal_no_steps, steps_length_within}
use Rattle.distances.proofs.DistanceLaws.{add_step_minutes}
use Rattle.search.proofs.Leading.{not_passed}
use Rattle.search.proofs.LeastPlans.{first_plan_some}
use Rattle.search.proofs.Going.{can_go, goes_below, goes_is}
use Rattle.distances.proofs.EntryLaws.{near_some, Within, within_near, within_low, within_total, total_is, some_distance}
use Rattle.search.proofs.FoundLaws.{plan_is}

-- i steps of a task's plan are written into a buffer that was `plan`; the rest leads on from state s
pub record Writing (t : Task) (origin plan : List ℕ) (steps s i : ℕ) (buffer : List ℕ) : Type 0 where
  pub inside : s < state_count t.variables
  pub total : Total
  pub distance : get_or (distances t) s none ≡ some total
  pub left : i + total.steps ≡ steps
  pub no_more : (x : Total) → get_or (distances t) (start_number t) none ≡ some x → total.minutes ≤ x.minutes
  pub limit : ℕ
  pub enough : total.steps ≤ limit
  pub rest : placed buffer (4 + 2 * i) (number_bytes (by_origin_file origin (steps_from t (distances t) s limit))) ≡ placed plan 4 (number_bytes (by_origin_file origin (found_plan t)))

-- one step more, and none
written_next : (origin : List ℕ) (plan rest : List ℕ) (a : ℕ) → plan ≡ a ∷ rest
    → number_bytes (by_origin_file origin plan) ≡ u16_bytes (get_or (origin_of origin).actions a 0) ++ number_bytes (by_origin_file origin rest)
unfolding by_origin_file number_bytes
written_next origin plan rest a e = ap (λ (l : List ℕ). number_bytes (by_origin_file origin l)) e

written_none : (origin plan buffer : List ℕ) (at : ℕ) → length plan ≡ 0 → placed buffer at (number_bytes (by_origin_file origin plan)) ≡ buffer
unfolding by_origin_file number_bytes placed
written_none origin [] buffer at e = refl
written_none origin (x ∷ xs) buffer at e = absurd (omega (arith, e))

-- i steps are written, and s is the state reached
pub record Stepping (look : ℕ → Entry) (plan : List ℕ) (steps : ℕ) (searched : Searched) (origin sizes costs rows : List ℕ) (moves : List Move) (s i : ℕ) (buffer : List ℕ) : Type 0 where
  pub below : 0 < steps → s < row_states searched.variables sizes
  pub room : length buffer ≡ length plan
  pub none_yet : i ≡ 0 → buffer ≡ plan
  pub writing : (t : Task) → PlanIn t look steps searched sizes costs rows moves → Writing t (take searched.named origin) plan steps s i buffer

-- a task whose table and arrays these are
module _ (t : Task) (look : ℕ → Entry) (steps : ℕ) (searched : Searched) (sizes costs rows : List ℕ) (moves : List Move) (k : PlanIn t look steps searched sizes costs rows moves) where
  valid : Valid t
  valid = task_valid t k.accepted

  states_are : state_count t.variables ≡ row_states searched.variables sizes
  states_are = ap state_count k.stepped.variables_are ∙ sym (states_count sizes k.stepped.starts searched.variables)

  start_inside : searched.start < state_count t.variables
  start_inside = omega (arith, k.start_is, start_below t valid)

  start_total : get_or (distances t) searched.start none ≡ some (entry_total (look searched.start))
  start_total = some_distance (look searched.start) (get_or (distances t) searched.start none) (k.entries_are searched.start start_inside) k.reached

  plan_read : found_plan t ≡ steps_from t (distances t) searched.start (state_count t.variables - 1)
  plan_read =
      let e = ap (λ (n : ℕ). get_or (distances t) n none) (sym k.start_is) ∙ start_total in
      plan_is t _ (first_plan_some t _ e)
      ∙ ap (λ (n : ℕ). steps_from t (distances t) n (state_count t.variables - 1)) (sym k.start_is)

  -- no step is written at the start state
  begun : (origin plan : List ℕ) → Writing t origin plan steps searched.start 0 plan
  begun origin plan =
      record {
        inside = start_inside;
        total = entry_total (look searched.start);
        distance = start_total;
        left = omega (arith, k.steps_are);
        no_more = λ x e.
            let here : some (entry_total (look searched.start)) ≡ some x = sym start_total ∙ ap (λ (n : ℕ). get_or (distances t) n none) k.start_is ∙ e in
            let same_total : entry_total (look searched.start) ≡ x = cc in
            omega (arith, ap (λ (y : Total). y.minutes) same_total);
        limit = state_count t.variables - 1;
        enough = omega (arith, steps_few t valid searched.start (entry_total (look searched.start)) start_inside start_total);
        rest = ap (λ (l : List ℕ). placed plan 4 (number_bytes (by_origin_file origin l))) (sym plan_read);
      }

  -- a step is left
  module _ (origin plan : List ℕ) (s i : ℕ) (buffer : List ℕ) (w : Writing t origin plan steps s i buffer) (more : i < steps) where
    not_goal : all_hold t.goal (state_at t.variables s) ≡ false
    unfolding no_steps
    not_goal =
        split (all_hold t.goal (state_at t.variables s))
        (λ e. absurd (omega (arith, ap (λ (x : Total). x.steps) (goal_no_steps t valid s w.total w.inside w.distance e), w.left)))
        (λ e. e)

    onward : LeadsOn t s
    onward = leads_on t valid s w.total w.inside w.distance not_goal

    within : Within 0 (look s)
    within =
        within_total (look s) w.total (total_is (look s) (get_or (distances t) s none) w.total (k.entries_are s w.inside) w.distance)
        (omega (arith, steps_few t valid s w.total w.inside w.distance, k.few)) (minutes_few t valid s w.total w.inside w.distance)

    leads : (here : Here) → HereOf searched.variables sizes rows s here → Leads t look searched s here costs moves
    leads here known =
        record {
          sizes = sizes;
          rows = rows;
          stepped = k.stepped;
          here_of = known;
          entries_are = λ x h. k.entries_are x (omega (arith, states_are));
          below = omega (arith, w.inside, states_are);
          own_near = near_some (look s) (within_near 0 (look s) within);
          own_low = within_low 0 (look s) within;
          most = minutes_of (look searched.start);
          cheap = k.cheap;
          own_within =
              omega (
                arith,
                w.no_more (entry_total (look searched.start)) (ap (λ (n : ℕ). get_or (distances t) n none) (sym k.start_is) ∙ start_total),
                ap (λ (x : Total). x.minutes) (total_is (look s) (get_or (distances t) s none) w.total (k.entries_are s w.inside) w.distance),
              );
          one = action_from t s;
          one_below = omega (arith, onward.below, k.stepped.count);
          one_leads = onward.passes;
        }

    module _ (here : Here) (known : HereOf searched.variables sizes rows s here) (r : Step) (found : FirstLed look searched s here costs moves r) where
      from_is : r.action.0 ≡ action_from t s
      from_is = found.is t (leads here known)

      next_number : r.next ≡ next_state t (action_from t s) s
      next_number =
          let there = not_passed t look searched s here costs moves (leads here known) r.action.0 found.below (ap (tight t (distances t) s) from_is ∙ onward.passes) in
          found.goes
          ∙ goes_is t searched.variables searched.actions sizes costs rows moves k.stepped s here known (omega (arith, w.inside, states_are)) r.action.0 found.below there
          ∙ ap (λ (a : ℕ). next_state t a s) from_is

      wrote : (next : ℕ) (after : List ℕ) → next ≡ r.next → after ≡ placed buffer (4 + 2 * i) (u16_bytes (get_or (origin_of origin).actions r.action.0 0))
          → Writing t origin plan steps next (suc i) after
      wrote next after n p =
          let row = distances t in
          let there : next ≡ next_state t (action_from t s) s = n ∙ next_number in
          let fewer = onward.fewer w.total w.distance in
          let here_total : some w.total ≡ some (add_step (action_of t (action_from t s)) onward.next) = sym w.distance ∙ onward.value in
          let totals : w.total ≡ add_step (action_of t (action_from t s)) onward.next = cc in
          let less : onward.next.minutes ≤ w.total.minutes = omega (arith, ap (λ (y : Total). y.minutes) totals, add_step_minutes (action_of t (action_from t s)) onward.next) in
          let rest_of = w.limit - 1 in
          let plan_from : steps_from t row s w.limit ≡ r.action.0 ∷ steps_from t row next rest_of =
          ap (steps_from t row s) (one_more w.limit (omega (arith, fewer, w.enough)))
          ∙ steps_more t row s rest_of not_goal
          ∙ ap₂ (λ (m l : ℕ). m ∷ steps_from t row l rest_of) (sym from_is) (sym there) in
          record {
            inside = omega (arith, there, onward.inside);
            total = onward.next;
            distance = ap (λ (m : ℕ). get_or row m none) there ∙ onward.reached;
            left = omega (arith, fewer, w.left);
            no_more = λ x e. omega (arith, w.no_more x e, less);
            limit = rest_of;
            enough = omega (arith, fewer, w.enough);
            rest =
                placed_u16_then buffer after (4 + 2 * i) (4 + 2 * suc i) (get_or (origin_of origin).actions r.action.0 0) (number_bytes (by_origin_file origin (steps_from t row next rest_of))) p (omega arith)
                ∙ ap (placed buffer (4 + 2 * i)) (sym (written_next origin (steps_from t row s w.limit) (steps_from t row next rest_of) r.action.0 plan_from))
                ∙ w.rest;
          }

  -- none is left
  written : (origin plan : List ℕ) (s : ℕ) (buffer : List ℕ) → Writing t origin plan steps s steps buffer → buffer ≡ placed plan 4 (number_bytes (by_origin_file origin (found_plan t)))
  written origin plan s buffer w =
      let none_left : length (steps_from t (distances t) s w.limit) ≡ 0 =
      steps_length_within t valid w.limit s w.total w.inside w.distance w.enough ∙ omega (arith, w.left) in
      sym (written_none origin (steps_from t (distances t) s w.limit) buffer (4 + 2 * steps) none_left) ∙ w.rest

module _ (look : ℕ → Entry) (plan : List ℕ) (steps : ℕ) (searched : Searched) (origin sizes costs rows : List ℕ) (moves : List Move) where
  pub steps_begin : StepsToWrite look plan steps searched origin sizes costs rows moves
      → Stepping look plan steps searched origin sizes costs rows moves searched.start 0 plan
  steps_begin asked =
      record {
        below = λ h. (asked h).start_below;
        room = refl;
        none_yet = λ z. refl;
        writing = λ t k. begun t look steps searched sizes costs rows moves k (take searched.named origin) plan;
      }

  pub can_know : CanStep look plan steps searched origin sizes costs rows moves → CanKnow searched.variables sizes rows
  can_know asked =
      let a = asked.tables.asked in
      record { states = record { sized = record { few = a.variables_few; least = a.size_least }; states = a.states_few }; facts = asked.tables.few; room = asked.tables.room }

  module _ (s i : ℕ) (buffer : List ℕ) where
    pub steps_length : Stepping look plan steps searched origin sizes costs rows moves s i buffer → length buffer ≡ length plan
    steps_length w = w.room

    pub can_put : (action : ℕ) → CanStep look plan steps searched origin sizes costs rows moves → Stepping look plan steps searched origin sizes costs rows moves s i buffer
        → i < steps → action < searched.actions → CanPut buffer i action searched origin
    can_put action asked w more h =
        record {
          few = omega (arith, asked.few);
          room = omega (arith, asked.room, w.room);
          named_fits = asked.named_fits;
          place_is = asked.place_is;
          place_few = asked.place_few;
          inside = omega (arith, asked.numbers);
        }

    module _ (asked : CanStep look plan steps searched origin sizes costs rows moves) (w : Stepping look plan steps searched origin sizes costs rows moves s i buffer) where
      module _ (more : i < steps) (here : Here) (known : HereOf searched.variables sizes rows s here) where
        below_now : (a : ℕ) → a < searched.actions → goes_by here moves s a < row_states searched.variables sizes
        below_now a h =
            goes_below searched.variables searched.actions sizes costs asked.conditions asked.effects rows moves asked.tables s here known (w.below (omega arith)) a h

        pub can_lead : CanLead look searched s here costs moves
        can_lead =
            record {
              actions_few = asked.tables.asked.actions_few;
              goes = λ a h. can_go searched.variables searched.actions sizes costs asked.conditions asked.effects rows moves asked.tables s here known (w.below (omega arith)) a h;
              cost_most = asked.tables.asked.cost_most;
              more = asked.more;
              low = λ a h. asked.low (goes_by here moves s a) (below_now a h);
            }

        pub steps_next : (r : Step) → FirstLed look searched s here costs moves r → (next : ℕ) (after : List ℕ) → StepPut buffer i r searched origin next after
            → Stepping look plan steps searched origin sizes costs rows moves next (suc i) after
        steps_next r found next after put =
            record {
              below = λ h. omega (arith, put.next_is, found.goes, below_now r.action.0 found.below);
              room = ap length put.plan_is ∙ placed_length buffer (4 + 2 * i) _ ∙ w.room;
              none_yet = λ z. absurd (omega (arith, z));
              writing = λ t k.
                  wrote t look steps searched sizes costs rows moves k (take searched.named origin) plan s i buffer (w.writing t k) more here known r found next after put.next_is put.plan_is;
            }

  pub steps_end : (s : ℕ) (buffer : List ℕ) → Stepping look plan steps searched origin sizes costs rows moves s steps buffer
      → StepsWritten look plan steps searched origin sizes costs rows moves buffer
  steps_end s buffer w =
      record {
        no_steps_lem = w.none_yet;
        steps_of_lem = λ t k. written t look steps searched sizes costs rows moves k (take searched.named origin) plan s buffer (w.writing t k);
      }
