-- What the search of one task comes to, its plan written by other numbers; and the search of the files that reduction has written.
use Rattle.std.specs.Prelude.{ℕ, ◌+◌, ◌*◌, ◌≤◌, ◌<◌, ◌≡◌, true, cond, List, ◌++◌, length, take, Result, Ok, Err}
use Rattle.std.proofs.Math.Option.{map}
use Rattle.files.specs.Outcome.{Outcome, done, refusal, refused, is_done, fits, overwrite}
use Rattle.files.specs.Accepted.{accepted_task}
use Rattle.files.specs.Bytes.{placed, u16_bytes, u32_bytes}
use Rattle.files.specs.declared.refusals.Refusal.{Refusal}
use Rattle.files.specs.OriginFile.{origin_of, origin_actions_place}
use Rattle.files.specs.PlanFile.{plan_file}
use Rattle.files.specs.Records.{record_bytes}
use Rattle.files.specs.Stages.{ByStages}
use Rattle.files.specs.Task.{Task, action_count}
use Rattle.files.specs.TaskFile.{check_task, task_of}
use Rattle.plans.specs.Plan.{total_of}
use Rattle.reduction.specs.Preserved.{by_origin_file}
use Rattle.reduction.specs.Reduce.{Buffers, Reduced}
use Rattle.distances.specs.States.{state_count}
use Rattle.distances.specs.Table.{minutes_of, steps_of, table_of, start_number}
use Rattle.distances.specs.Entries.{is_none, table_entry}
use Rattle.lookup.specs.FactRows.{CheapRow}
use Rattle.lookup.specs.declared.moves.Move.{Move}
use Rattle.search.specs.FirstPlan.{first_plan, found_plan}
use Rattle.search.specs.ReadOff.{Searched, Stepped}
use Rattle.search.specs.Planner.{states_fit, SearchBuffers, search_stages, unplanned, lent, Plans, Planned}
use Rattle.distances.specs.declared.Entry.{Entry}
use Rattle.search.specs.declared.stages.PlanFound.{PlanFound}
use Rattle.plans.specs.declared.Minutes.{Minutes}
use Rattle.plans.specs.declared.Steps.{Steps}

-- how many entries of the table are filled
unfoldable pub found_states : Task → ℕ → ℕ
found_states t table_room = cond (is_done (states_fit t table_room)) (state_count t.variables) 0

-- what the search of a task comes to: the entries filled, also beside 24 and the plan buffer's 21, and the plan file's length, cost and steps, 0 beside a
-- refusal
pub record Found : Type 0 where
  pub outcome : Outcome
  pub states : ℕ
  pub plan : ℕ
  pub cost : Minutes
  pub steps : Steps

-- a refusal, with so many entries filled
abbrev pub not_found : ℕ → Outcome → Found
not_found states o = record { outcome = o; states = states; plan = 0; cost = record { 0 = 0 }; steps = record { 0 = 0 } }

-- the entries filled, the plan file's length, cost and steps of the plan
abbrev pub found_whole : Task → (List ℕ → List ℕ) → ℕ → Found
found_whole t original signer =
    record {
      outcome = done;
      states = state_count t.variables;
      plan = length (plan_file (original (found_plan t)) signer);
      cost = record { 0 = (total_of t (found_plan t)).minutes };
      steps = record { 0 = (total_of t (found_plan t)).steps };
    }

-- the numbers of an answer, beside whose refusal so many entries are filled
abbrev pub found_of : ℕ → Result PlanFound Refusal → Found
found_of states (Ok x) = record { outcome = done; states = x.states; plan = x.plan; cost = x.cost; steps = x.steps }
found_of states (Err r) = not_found states (refused r)

-- the search of a task: what it finds, and what the table and the plan buffer hold now
abbrev pub Searches : Task → (List ℕ → List ℕ) → ℕ → SearchBuffers → Found → SearchBuffers → Type 0
Searches t original signer b found now =
    ByStages (search_stages t (map original (first_plan t)) signer b) (found_whole t original signer) (not_found (found_states t (length b.table))) b found now

-- the files that reduction has written: a task file that is accepted, and an original number for each of its actions
pub record FilesWritten (first : Reduced) (reduced origin : List ℕ) : Type 0 where
  pub reduced_fits : first.reduced ≤ length reduced
  pub origin_fits : first.origin ≤ length origin
  pub checked : check_task (take first.reduced reduced) ≡ done
  pub numbers : action_count (task_of (take first.reduced reduced)) ≤ length (origin_of (take first.origin origin)).actions

-- the search of the reduced file's task by the numbers in the origin file
abbrev pub SearchesFiles : Reduced → List ℕ → List ℕ → ℕ → SearchBuffers → Result PlanFound Refusal → SearchBuffers → Type 0
SearchesFiles first reduced origin signer b r now =
    let t = task_of (take first.reduced reduced) in
    Searches t (by_origin_file (take first.origin origin)) signer b (found_of (found_states t (length b.table)) r) now

-- the table of a task, its steps in arrays, and the actions that cost no more than a best plan
pub record TableFound (t : Task) (searched : Searched) (entries : List Entry) (sizes costs rows : List ℕ) (moves : List Move) : Type 0 where
  pub accepted : accepted_task t ≡ true
  pub few : state_count t.variables ≤ 4096
  pub states : searched.states ≡ state_count t.variables
  pub start : searched.start ≡ start_number t
  pub stepped : Stepped t searched.variables searched.actions sizes costs rows moves
  pub cheap : CheapRow searched.actions costs (minutes_of (table_entry entries searched.start)) rows
  pub table : entries ≡ table_of t

-- the search of a task in a lent table, whose actions an origin file of so many bytes names in the record at a place: its entries are the front of the table,
-- which is as it was beside a refusal
pub record SearchedIn (t : Task) (named place : ℕ) (o : Outcome) (searched : Searched) (table now : List Entry) (sizes costs rows : List ℕ) (moves : List Move) : Type 0 where
  pub outcome : o ≡ states_fit t (length table)
  pub untouched : (o.number ≡ 0 → ⊥) → now ≡ table
  pub front : o.number ≡ 0 → now ≡ overwrite table (take searched.states now)
  pub found : o.number ≡ 0 → TableFound t searched (take searched.states now) sizes costs rows moves
  pub named_is : o.number ≡ 0 → searched.named ≡ named
  pub place_is : o.number ≡ 0 → searched.place ≡ place

-- the same of the reduced file, with the place of the actions' numbers in the origin file
pub record SearchedFiles (first : Reduced) (reduced origin : List ℕ) (o : Outcome) (searched : Searched) (table now : List Entry) (sizes costs rows : List ℕ) (moves : List Move) : Type 0 where
  pub searched_in : SearchedIn (task_of (take first.reduced reduced)) first.origin (origin_actions_place (take first.origin origin)) o searched table now sizes costs rows moves
  pub place_few : o.number ≡ 0 → searched.place < 8589934592

-- by the entry of the start state: no plan, or one whose file fits the plan buffer
unfoldable pub entry_fits : Entry → ℕ → Outcome
entry_fits e room = cond (is_none e) (refusal 24 0) (fits (16 + 2 * steps_of e) room done)

-- where the table is filled: no plan, no room for it, or its file's length, its cost and its steps
unfoldable pub plan_by : ℕ → Entry → ℕ → Found
plan_by states e room =
    let o = entry_fits e room in
    cond (is_done o) (record { outcome = done; states = states; plan = 16 + 2 * steps_of e; cost = e.minutes; steps = e.steps }) (not_found states o)

-- the head of the plan file, where there is one
unfoldable pub headed : Found → List ℕ → List ℕ
headed f plan = cond (is_done f.outcome) (placed plan 0 (u16_bytes (2 * f.steps.0) ++ u16_bytes 8)) plan

-- its sign-off behind so many steps
unfoldable pub signed_off : ℕ → ℕ → List ℕ → List ℕ
signed_off signer steps plan =
    let at = 4 + 2 * steps in
    placed plan at (record_bytes 5 (u32_bytes signer ++ u32_bytes at))

-- where so many entries are filled: the answer by the entry of the start state, and the file begun
pub record Begins (states : ℕ) (e : Entry) (plan : List ℕ) (r : Result PlanFound Refusal) (now : List ℕ) : Type 0 where
  pub found : found_of states r ≡ plan_by states e (length plan)
  pub begun : now ≡ headed (found_of states r) plan

-- the answers of reduction and of the search together
unfoldable pub both_together : Reduced → Found → Planned
both_together first found =
    let planned : Planned =
    record {
      outcome = found.outcome;
      action_marks = first.action_marks;
      fact_marks = first.fact_marks;
      reduced = first.reduced;
      origin = first.origin;
      table = found.states;
      plan = found.plan;
      rounds = first.rounds;
      turns = first.turns;
      cost = found.cost;
      steps = found.steps;
    }
    in
    cond (is_done found.outcome) planned (unplanned found.outcome)

-- the planner with a table of its own of 4,096 entries, as with any other that is lent
pub record PlansAlone (task : List ℕ) (level signer : ℕ) (before : Buffers) (plan : List ℕ) (answer : Planned) (after : Buffers) (now : List ℕ) : Type 0 where
  pub table : List Entry
  pub long : length table ≡ 4096
  pub left : List Entry
  pub plans : Plans task level signer (lent before table plan) answer (lent after left now)
