-- What the planner promises of the full task: the plan that it hands back is best, and "no plan" is given where there is none.
use Rattle.std.specs.Prelude.{ℕ, ◌≤◌, ◌<◌, ◌≡◌, true, List, ◌↔◌, length, take, get_or}
use Rattle.std.proofs.Math.Option.{none}
use Rattle.files.specs.Accepted.{valid_signer}
use Rattle.files.specs.Bytes.{Octets}
use Rattle.files.specs.Outcome.{done, refusal}
use Rattle.files.specs.PlanFile.{plan_file}
use Rattle.files.specs.Reading.{read_plan, under}
use Rattle.files.specs.Task.{Task, action_count}
use Rattle.files.specs.TaskFile.{check_task, task_of}
use Rattle.plans.specs.Plan.{IsPlan, total_of, Best, FirstBest}
use Rattle.reduction.specs.Task.{reduced_task}
use Rattle.reduction.specs.Answers.{LongEnough}
use Rattle.distances.specs.States.{state_count}
use Rattle.distances.specs.Table.{minutes_of, steps_of, entry_of}
use Rattle.search.specs.Least.{started_at}
use Rattle.search.specs.Planner.{valid_planning, Lent, Plans, plan_answer, Planned}
use Rattle.distances.specs.declared.Entry.{Entry}

-- the buffers are long enough for the planner: where no plan exists, every plan buffer is
pub record PlanLongEnough (task : List ℕ) (level signer : ℕ) (b : Lent) : Type 0 where
  pub buffers : LongEnough task level signer b.buffers
  pub table : state_count (reduced_task (task_of task) level).variables ≤ length b.table
  pub plan : (plan : List ℕ) → Best (task_of task) plan → length (plan_file plan signer) ≤ length b.plan

-- a plan of the full task: the one in the plan file, of which the numbers handed back are
pub record HandedBack (t : Task) (signer : ℕ) (answer : Planned) (buffer : List ℕ) : Type 0 where
  pub outcome : answer.outcome ≡ done
  pub plan : List ℕ
  pub file : read_plan (action_count t) (take answer.plan buffer) ≡ under plan signer
  pub is_plan : IsPlan t plan
  pub cost : answer.cost.0 ≡ (total_of t plan).minutes
  pub steps : answer.steps.0 ≡ length plan
  -- every other plan, of whatever length, costs more, or costs the same with at least as many steps
  pub best : Best t plan
  -- and it is the first of the best by comparing action numbers
  pub first : FirstBest t plan

-- an entry for a task: none exactly where there is no plan; else cost and steps of a cheapest plan of fewest steps, of all
-- lists of any length
pub record EntryRight (t : Task) (e : Entry) : Type 0 where
  pub no_plan : (e ≡ entry_of none) ↔ ((plan : List ℕ) → IsPlan t plan → ⊥)
  pub otherwise : (e ≡ entry_of none → ⊥) → (plan : List ℕ) × Best t plan × (minutes_of e ≡ (total_of t plan).minutes) × (steps_of e ≡ length plan)

pub record PlannerRight (task : List ℕ) (level signer : ℕ) (answer : Planned) (now : Lent) : Type 0 where
  -- "no plan" is given exactly when the full task has none
  pub no_plan : (answer.outcome ≡ refusal 24 0) ↔ ((plan : List ℕ) → IsPlan (task_of task) plan → ⊥)
  pub otherwise : (answer.outcome ≡ refusal 24 0 → ⊥) → HandedBack (task_of task) signer answer now.plan
  -- each entry of the table is that of the level's reduced task from its state on, after 24 too
  pub entries : (n : ℕ) → n < state_count (reduced_task (task_of task) level).variables
      → EntryRight (started_at (reduced_task (task_of task) level) n) (get_or now.table n (entry_of none))

-- the planner is right for every accepted task, at every level that it takes: what it answers, and what the buffers that it is
-- lent hold now
abbrev pub PlannerPromise : List ℕ → ℕ → ℕ → Lent → Planned → Lent → Type 0
PlannerPromise task level signer b answer now =
    Octets task → check_task task ≡ done → valid_planning level ≡ true → valid_signer signer ≡ true
    → state_count (reduced_task (task_of task) level).variables ≤ 4096
    → PlanLongEnough task level signer b
    → PlannerRight task level signer answer now

-- the planner's call: by its stages, and right
pub record PlansRight (task : List ℕ) (level signer : ℕ) (b : Lent) (answer : Planned) (now : Lent) : Type 0 where
  pub stages : Plans task level signer b answer now
  pub right : PlannerPromise task level signer b answer now

-- buffers of the header's largest lengths
pub record Ample (b : Lent) : Type 0 where
  pub actions : length b.buffers.actions ≡ 512
  pub facts : length b.buffers.facts ≡ 2048
  pub reduced : length b.buffers.reduced ≡ 65536
  pub origin : length b.buffers.origin ≡ 5520
  pub table : length b.table ≡ 4096
  pub plan : length b.plan ≡ 8206

-- they are long enough for every accepted task that is searched, at every level
abbrev pub AmpleSuffices : Type 0
AmpleSuffices = (task : List ℕ) (level signer : ℕ) (b : Lent) → Octets task → check_task task ≡ done
    → state_count (reduced_task (task_of task) level).variables ≤ 4096
    → Ample b → PlanLongEnough task level signer b

-- and with them no file is refused with 21
abbrev pub NeverShort : Type 0
NeverShort = (task : List ℕ) (level signer : ℕ) (b : Lent) → Octets task → Ample b → (plan_answer task level signer b).outcome.number ≡ 21 → ⊥
