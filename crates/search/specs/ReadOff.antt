-- The plan read off a table, wherever its entries stand: where each action leads from a state, the first action by which a state has its entry, and the steps written.
use Rattle.std.specs.Prelude.{ℕ, ◌+◌, ◌-◌, ◌*◌, ◌≤◌, ◌<◌, ◌≡◌, Bool, true, false, not, cond, ◌&&◌, List, ltb, length, get_or, take}
use Rattle.std.proofs.Math.Option.{none}
use Rattle.files.specs.Accepted.{accepted_task}
use Rattle.files.specs.Below.{all_below, sum_below}
use Rattle.files.specs.Bytes.{placed, u16_bytes}
use Rattle.files.specs.Dense.{row_action}
use Rattle.files.specs.OriginFile.{origin_of, origin_actions_place}
use Rattle.files.specs.Records.{number_bytes}
use Rattle.files.specs.Task.{Action, Task, action_count, action_of}
use Rattle.reduction.specs.Preserved.{by_origin_file}
use Rattle.distances.specs.States.{state_count}
use Rattle.distances.specs.Table.{minutes_of, steps_of, entry_of, same, through, distances, start_number}
use Rattle.lookup.specs.declared.moves.Move.{Move}
use Rattle.search.specs.FirstPlan.{first_action, found_plan}
use Rattle.distances.specs.Entries.{is_none, same_entry, after_step, Low}
use Rattle.distances.specs.Rows.{row_variables, row_states, row_state, FewStates, Searchable}
use Rattle.lookup.specs.Moves.{no_move, row_weight, MovesIn}
use Rattle.bits.specs.Sets.{in_word, in_words}
use Rattle.lookup.specs.FactRows.{most_facts, fact_number, FewFacts, RowsByFact, most_words, CheapRow}
use Rattle.distances.specs.declared.Entry.{Entry}
use Rattle.search.specs.declared.first_plan.Here.{Here}
use Rattle.search.specs.declared.first_plan.Step.{Step}
use Rattle.search.specs.declared.stages.Search.{Search}

-- what reading off needs of the search of a task: how many states there are, the number of the start state, the sizes of the task, the length of its
-- origin file, and where the record of its actions stands there
pub record Searched : Type 0 where
  pub states : ℕ
  pub start : ℕ
  pub variables : ℕ
  pub actions : ℕ
  pub named : ℕ
  pub place : ℕ

abbrev pub searched_of : Search → Searched
searched_of s =
    record { states = s.states; start = s.start; variables = s.task.variables; actions = s.task.actions; named = s.named; place = s.place }

-- the tables from which a plan is read off are those of arrays
pub record StepTables (variables actions : ℕ) (sizes costs conditions effects rows : List ℕ) (moves : List Move) : Type 0 where
  pub asked : Searchable variables actions sizes costs conditions effects
  pub few : FewFacts variables sizes rows
  pub room : most_words ≤ length rows
  pub rows_are : RowsByFact variables actions sizes conditions conditions rows
  pub moves_are : MovesIn variables actions sizes conditions effects moves

-- they hold the variables and actions of a task
pub record Stepped (t : Task) (variables actions : ℕ) (sizes costs rows : List ℕ) (moves : List Move) : Type 0 where
  pub starts : List ℕ
  pub conditions : List ℕ
  pub effects : List ℕ
  pub tables : StepTables variables actions sizes costs conditions effects rows moves
  pub variables_are : t.variables ≡ row_variables variables sizes starts
  pub count : actions ≡ action_count t
  pub actions_are : (a : ℕ) → a < actions → action_of t a ≡ row_action variables costs conditions effects a

-- what is known of state s: its actions, which are applicable and cheap enough, and what the value of each variable adds to its number
pub record HereOf (variables : ℕ) (sizes rows : List ℕ) (s : ℕ) (here : Here) : Type 0 where
  pub actions_are : (a : ℕ) → a < 512 → in_words here.actions 0 a ≡ in_words rows (8 * most_facts) a && all_below variables (λ v. in_words rows (8 * fact_number sizes v (row_state variables sizes s v)) a)
  pub added : (v : ℕ) → v < variables → get_or here.added v 0 ≡ row_weight sizes v * row_state variables sizes s v

-- few states, and room for the rows of their facts and for one row more
pub record CanKnow (variables : ℕ) (sizes rows : List ℕ) : Type 0 where
  pub states : FewStates variables sizes
  pub facts : FewFacts variables sizes rows
  pub room : most_words ≤ length rows

-- what the first `count` variables add, where they are in the set of a word
unfoldable pub freed_by : Here → ℕ → ℕ → ℕ
freed_by here word count = sum_below count (λ v. cond (in_word word v) (get_or here.added v 0) 0)

-- what an action takes from the number of a state in all
unfoldable pub taken_by : Here → List Move → ℕ → ℕ
taken_by here moves a = (get_or moves a no_move).asked + freed_by here ((get_or moves a no_move).free) 64

-- the number of the state that an action leads to; where it is not among those of the state, the number itself
unfoldable pub goes_by : Here → List Move → ℕ → ℕ → ℕ
goes_by here moves s a = cond (in_words here.actions 0 a) (s + (get_or moves a no_move).set - taken_by here moves a) s

-- numbers that fit, of which an action of the state takes no more than there is
pub record CanGo (here : Here) (moves : List Move) (s a : ℕ) : Type 0 where
  pub action_few : a < 512
  pub state_few : s ≤ 4096
  pub set_few : (get_or moves a no_move).set ≤ 4096
  pub enough : in_words here.actions 0 a ≡ true → taken_by here moves a ≤ s + (get_or moves a no_move).set

-- a state from which every action can go, and an action to begin with
pub record CanStepFrom (searched : Searched) (from s : ℕ) (here : Here) (moves : List Move) : Type 0 where
  pub actions_few : searched.actions ≤ 512
  pub goes : (a : ℕ) → a < searched.actions → CanGo here moves s a
  pub more : from < searched.actions

-- the step by the first action of the state from `from` on, or by the last action of all
pub record StepFrom (searched : Searched) (from s : ℕ) (here : Here) (moves : List Move) (r : Step) : Type 0 where
  pub first : from ≤ r.action.0
  pub below : r.action.0 < searched.actions
  pub goes : r.next ≡ goes_by here moves s r.action.0
  pub skipped : (b : ℕ) → from ≤ b → b < r.action.0 → in_words here.actions 0 b ≡ false

-- a state with entry `own` has it by way of an action that leads to one with entry `next`
unfoldable pub has_by : Action → Entry → Entry → Bool
has_by a next own = not (is_none next) && same_entry (after_step a next) own

-- an action, and the entry where it leads
pub record CanCompare (a : ℕ) (next : Entry) (costs : List ℕ) : Type 0 where
  pub few : a < 512
  pub low : is_none next ≡ false → Low next
  pub cost_most : get_or costs a 0 ≤ 1000000

abbrev pub HasBy : (a : ℕ) (next : Entry) (costs : List ℕ) (own : Entry) → Bool → Type 0
HasBy a next costs own r = (x : Action) → x.cost ≡ get_or costs a 0 → r ≡ has_by x next own

-- a later action is to be looked at
abbrev pub LooksOn : (searched : Searched) (step : Step) (next : Entry) (costs : List ℕ) (own : Entry) → Bool → Type 0
LooksOn searched step next costs own r =
    (x : Action) → x.cost ≡ get_or costs step.action.0 0 → r ≡ ltb (step.action.0 + 1) searched.actions && not (has_by x next own)

-- a state from which every action can go, and entries
pub record CanLead (look : ℕ → Entry) (searched : Searched) (s : ℕ) (here : Here) (costs : List ℕ) (moves : List Move) : Type 0 where
  pub actions_few : searched.actions ≤ 512
  pub goes : (a : ℕ) → a < searched.actions → CanGo here moves s a
  pub cost_most : (a : ℕ) → a < searched.actions → get_or costs a 0 ≤ 1000000
  pub more : 0 < searched.actions
  pub low : (a : ℕ) → a < searched.actions → is_none (look (goes_by here moves s a)) ≡ false → Low (look (goes_by here moves s a))

-- they are those of a task's states, and the state has its entry by way of one of the actions; those that cost more than it has minutes may be left out
pub record Leads (t : Task) (look : ℕ → Entry) (searched : Searched) (s : ℕ) (here : Here) (costs : List ℕ) (moves : List Move) : Type 0 where
  pub sizes : List ℕ
  pub rows : List ℕ
  pub stepped : Stepped t searched.variables searched.actions sizes costs rows moves
  pub here_of : HereOf searched.variables sizes rows s here
  pub entries_are : (x : ℕ) → x < row_states searched.variables sizes → look x ≡ entry_of (get_or (distances t) x none)
  pub below : s < row_states searched.variables sizes
  pub own_near : is_none (look s) ≡ false
  pub own_low : Low (look s)
  pub most : ℕ
  pub cheap : CheapRow searched.actions costs most rows
  pub own_within : minutes_of (look s) ≤ most
  pub one : ℕ
  pub one_below : one < searched.actions
  pub one_leads : same (through t (distances t) s one) (get_or (distances t) s none) ≡ true

-- the step by the first action by which a state has its entry
pub record FirstLed (look : ℕ → Entry) (searched : Searched) (s : ℕ) (here : Here) (costs : List ℕ) (moves : List Move) (r : Step) : Type 0 where
  pub below : r.action.0 < searched.actions
  pub goes : r.next ≡ goes_by here moves s r.action.0
  pub is : (t : Task) → Leads t look searched s here costs moves → r.action.0 ≡ first_action t (distances t) s 0 (action_count t)

-- room for step i, and a number for the action
pub record CanPut (plan : List ℕ) (i action : ℕ) (searched : Searched) (origin : List ℕ) : Type 0 where
  pub few : i ≤ 65536
  pub room : 6 + 2 * i ≤ length plan
  pub named_fits : searched.named ≤ length origin
  pub place_is : searched.place ≡ origin_actions_place (take searched.named origin)
  pub place_few : searched.place < 8589934592
  pub inside : action < length (origin_of (take searched.named origin)).actions

-- step i is written, and the state is that which it leads to
pub record StepPut (plan : List ℕ) (i : ℕ) (step : Step) (searched : Searched) (origin : List ℕ) (r : ℕ) (now : List ℕ) : Type 0 where
  pub plan_is : now ≡ placed plan (4 + 2 * i) (u16_bytes (get_or (origin_of (take searched.named origin)).actions step.action.0 0))
  pub next_is : r ≡ step.next

-- what the steps ask
pub record CanStep (look : ℕ → Entry) (plan : List ℕ) (steps : ℕ) (searched : Searched) (origin sizes costs rows : List ℕ) (moves : List Move) : Type 0 where
  pub conditions : List ℕ
  pub effects : List ℕ
  pub tables : StepTables searched.variables searched.actions sizes costs conditions effects rows moves
  pub start_below : searched.start < row_states searched.variables sizes
  pub low : (s : ℕ) → s < row_states searched.variables sizes → is_none (look s) ≡ false → Low (look s)
  pub more : 0 < searched.actions
  pub few : steps ≤ 65536
  pub room : 16 + 2 * steps ≤ length plan
  pub named_fits : searched.named ≤ length origin
  pub place_is : searched.place ≡ origin_actions_place (take searched.named origin)
  pub place_few : searched.place < 8589934592
  pub numbers : searched.actions ≤ length (origin_of (take searched.named origin)).actions

abbrev pub StepsToWrite : (ℕ → Entry) → List ℕ → ℕ → Searched → List ℕ → List ℕ → List ℕ → List ℕ → List Move → Type 0
StepsToWrite look plan steps searched origin sizes costs rows moves = 0 < steps → CanStep look plan steps searched origin sizes costs rows moves

-- the table and the arrays are those of a task that has a plan
pub record PlanIn (t : Task) (look : ℕ → Entry) (steps : ℕ) (searched : Searched) (sizes costs rows : List ℕ) (moves : List Move) : Type 0 where
  pub accepted : accepted_task t ≡ true
  pub few : state_count t.variables ≤ 4096
  pub stepped : Stepped t searched.variables searched.actions sizes costs rows moves
  pub entries_are : (s : ℕ) → s < state_count t.variables → look s ≡ entry_of (get_or (distances t) s none)
  pub start_is : searched.start ≡ start_number t
  pub reached : is_none (look searched.start) ≡ false
  pub cheap : CheapRow searched.actions costs (minutes_of (look searched.start)) rows
  pub steps_are : steps ≡ steps_of (look searched.start)

-- the steps of the plan are written behind the head, by original numbers
pub record StepsWritten (look : ℕ → Entry) (plan : List ℕ) (steps : ℕ) (searched : Searched) (origin sizes costs rows : List ℕ) (moves : List Move) (now : List ℕ) : Type 0 where
  pub no_steps_lem : steps ≡ 0 → now ≡ plan
  pub steps_of_lem : (t : Task) → PlanIn t look steps searched sizes costs rows moves → now ≡ placed plan 4 (number_bytes (by_origin_file (take searched.named origin) (found_plan t)))
