-- The planner by its stages: what it answers, and what each lent buffer holds after every outcome.
use Rattle.std.specs.Prelude.{ℕ, Bool, cond, ◌||◌, List, [], ◌∷◌, ◌++◌, map, eqb, leb, length, Result, Ok, Err}
use Rattle.std.proofs.Math.Option
use Rattle.std.proofs.Math.Option.{Option, none, some, get_or}
use Rattle.files.specs.Outcome.{Outcome, done, refusal, refused, guard, fits, overwrite}
use Rattle.files.specs.declared.refusals.Refusal.{Refusal}
use Rattle.files.specs.Stages.{Stage, stage, beside, left_by, answer_by, ByStages}
use Rattle.files.specs.Task.{Task, action_count, fact_count}
use Rattle.files.specs.TaskFile.{task_of}
use Rattle.files.specs.PlanFile.{plan_file}
use Rattle.plans.specs.Plan.{total_of}
use Rattle.marking.specs.Rounds.{marking}
use Rattle.reduction.specs.Task.{mark_level, reduced_task, turn_count, by_original}
use Rattle.reduction.specs.Reduce.{Buffers, buffers, with_files, reduced_file, origins_file, reduce_file_stages}
use Rattle.distances.specs.States.{state_count}
use Rattle.distances.specs.Table.{table_of}
use Rattle.search.specs.FirstPlan.{first_plan}
use Rattle.distances.specs.declared.Entry.{Entry}
use Rattle.search.specs.declared.Counts.{Counts}
use Rattle.files.specs.declared.units.Minutes.{Minutes}
use Rattle.files.specs.declared.units.Steps.{Steps}

-- the numbers of an answer: the outcome, the six lengths written, the round count, the turn count, cost and steps, 0 beside a refusal
pub record Planned : Type 0 where
  pub outcome : Outcome
  pub action_marks : ℕ
  pub fact_marks : ℕ
  pub reduced : ℕ
  pub origin : ℕ
  pub table : ℕ
  pub plan : ℕ
  pub rounds : ℕ
  pub turns : ℕ
  pub cost : Minutes
  pub steps : Steps

-- the levels that the planner takes
unfoldable pub valid_planning : ℕ → Bool
valid_planning level = eqb level 4 || eqb level 5

-- the level given where the planner takes it, else 0, which reduction refuses with 8
unfoldable pub taken_level : ℕ → ℕ
taken_level level = cond (valid_planning level) level 0

-- the task that is searched, and the count of its states
unfoldable pub searched : List ℕ → ℕ → Task
searched task level = reduced_task (task_of task) level

unfoldable pub searched_states : List ℕ → ℕ → ℕ
searched_states task level = state_count (searched task level).variables

-- the plan found, by original numbers
unfoldable pub plan_found : List ℕ → ℕ → Option (List ℕ)
plan_found task level = Option.map (by_original (task_of task) level) (first_plan (searched task level))

-- the six lent buffers
pub record Lent : Type 0 where
  pub buffers : Buffers
  pub table : List Entry
  pub plan : List ℕ

abbrev pub lent : Buffers → List Entry → List ℕ → Lent
lent buffers table plan = record { buffers = buffers; table = table; plan = plan }

abbrev pub lent_of : List ℕ → List ℕ → List ℕ → List ℕ → List Entry → List ℕ → Lent
lent_of actions facts reduced origin table plan = lent (buffers actions facts reduced origin) table plan

-- at most 4,096 states, and the room for the table
unfoldable pub count_fits : ℕ → ℕ → Outcome
count_fits count room =
    guard (leb count 4096) 25 0
    (fits count room
    done)

abbrev pub states_fit : Task → ℕ → Outcome
states_fit t room = count_fits (state_count t.variables) room

-- no plan exists, or it fits the plan buffer
unfoldable pub plan_fits : Option (List ℕ) → ℕ → ℕ → Outcome
plan_fits none signer room = refusal 24 0
plan_fits (some plan) signer room = fits (length (plan_file plan signer)) room done

-- the table and the plan buffer
pub record SearchBuffers : Type 0 where
  pub table : List Entry
  pub plan : List ℕ

abbrev pub search_buffers : List Entry → List ℕ → SearchBuffers
search_buffers table plan = record { table = table; plan = plan }

-- the stages of the search of a task, its plan written by other numbers: the count of states and the room for the table, then
-- the table; no plan, or the room for the plan file, then the plan file: 24 leaves the table filled
unfoldable pub search_stages : Task → Option (List ℕ) → ℕ → SearchBuffers → List (Stage SearchBuffers)
search_stages t found signer b =
    stage (states_fit t (length b.table)) (search_buffers (overwrite b.table (table_of t)) b.plan)
    ∷ stage (plan_fits found signer (length b.plan)) (search_buffers (overwrite b.table (table_of t)) (overwrite b.plan (plan_file (get_or found []) signer)))
    ∷ []

-- the plan, where the row is done
unfoldable pub plan_made : List ℕ → ℕ → List ℕ
plan_made task level = get_or (plan_found task level) []

-- beside a refusal there are no lengths, rounds, turns, cost and steps
abbrev pub unplanned : Outcome → Planned
unplanned o =
    record {
      outcome = o;
      action_marks = 0;
      fact_marks = 0;
      reduced = 0;
      origin = 0;
      table = 0;
      plan = 0;
      rounds = 0;
      turns = 0;
      cost = record { 0 = 0 };
      steps = record { 0 = 0 };
    }

-- the numbers of an answer
abbrev pub planned_of : Result Counts Refusal → Planned
planned_of (Ok c) =
    record {
      outcome = done;
      action_marks = c.action_marks;
      fact_marks = c.fact_marks;
      reduced = c.reduced;
      origin = c.origin;
      table = c.table;
      plan = c.plan;
      rounds = c.rounds;
      turns = c.turns;
      cost = c.cost;
      steps = c.steps;
    }
planned_of (Err r) = unplanned (refused r)

-- the six lengths, the round count and the turn count, and cost and steps of the plan
abbrev pub plan_whole : List ℕ → ℕ → ℕ → Planned
plan_whole task level signer =
    record {
      outcome = done;
      action_marks = action_count (task_of task);
      fact_marks = fact_count (task_of task);
      reduced = length (reduced_file (task_of task) level signer);
      origin = length (origins_file (task_of task) level signer);
      table = searched_states task level;
      plan = length (plan_file (plan_made task level) signer);
      rounds = (marking (task_of task) (mark_level level)).rounds;
      turns = turn_count (task_of task) level;
      cost = record { 0 = (total_of (task_of task) (plan_made task level)).minutes };
      steps = record { 0 = (total_of (task_of task) (plan_made task level)).steps };
    }

-- the stages of reduction at the level, beside the table and the plan; then those of the search, beside the files
unfoldable pub plan_stages : List ℕ → ℕ → ℕ → Lent → List (Stage Lent)
plan_stages task level signer b =
    map (beside (λ (x : Buffers). lent x b.table b.plan)) (reduce_file_stages task level signer b.buffers)
    ++ map (beside (λ (x : SearchBuffers). lent (with_files (task_of task) level signer b.buffers) x.table x.plan)) (search_stages (searched task level) (plan_found task level) signer (search_buffers b.table b.plan))

-- the planner, at the level that it takes: what it answers, and what the buffers hold now
abbrev pub Plans : List ℕ → ℕ → ℕ → Lent → Planned → Lent → Type 0
Plans task level signer b answer now = ByStages (plan_stages task (taken_level level) signer b) (plan_whole task (taken_level level) signer) unplanned b answer now

abbrev pub plan_answer : List ℕ → ℕ → ℕ → Lent → Planned
plan_answer task level signer b = answer_by (plan_stages task (taken_level level) signer b) (plan_whole task (taken_level level) signer) unplanned

abbrev pub plan_after : List ℕ → ℕ → ℕ → Lent → Lent
plan_after task level signer b = left_by (plan_stages task (taken_level level) signer b) b
