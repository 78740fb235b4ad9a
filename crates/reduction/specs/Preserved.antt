-- What the reduced task preserves of the full task, and that it does so for every accepted task at every level.
use Rattle.std.specs.Prelude.{ℕ, ◌≤◌, ◌≡◌, true, List, map, ◌↔◌, length, get_or}
use Rattle.files.specs.Bytes.{Octets}
use Rattle.files.specs.Outcome.{done}
use Rattle.files.specs.Task.{Task, action_count}
use Rattle.files.specs.TaskFile.{check_task, task_of}
use Rattle.files.specs.OriginFile.{origin_of}
use Rattle.files.specs.Reading.{read_task, read_origin, under}
use Rattle.files.specs.Accepted.{valid_signer, accepted_task}
use Rattle.plans.specs.Plan.{IsPlan, total_of, Best, FirstBest}
use Rattle.reduction.specs.Task.{reduced_task, origins_at, by_original}
use Rattle.reduction.specs.Reduce.{reduced_file, origins_file}

-- `original` takes a list of the reduced task's actions to original numbers
pub record Preserves (full reduced : Task) (original : List ℕ → List ℕ) : Type 0 where
  -- the full task has a plan exactly when its reduced task has one
  pub solvable : ((plan : List ℕ) × IsPlan full plan) ↔ ((plan : List ℕ) × IsPlan reduced plan)
  -- the least cost, and the least number of steps at that cost, are alike in both
  pub least : (p q : List ℕ) → Best full p → Best reduced q → total_of full p ≡ total_of reduced q
  -- the cheapest plans of fewest steps of the full task are exactly those of the reduced task, by original numbers
  pub best_back : (q : List ℕ) → Best reduced q → Best full (original q)
  pub best_there : (p : List ℕ) → Best full p → (q : List ℕ) × (p ≡ original q) × Best reduced q
  -- and the first of them by action numbers is the first
  pub first_back : (q : List ℕ) → FirstBest reduced q → FirstBest full (original q)
  -- any plan of the reduced task is one of the full task, with its cost and steps
  pub plan_back : (q : List ℕ) → IsPlan reduced q → IsPlan full (original q) × (total_of full (original q) ≡ total_of reduced q)

-- demand 3, its first half
abbrev pub ReductionPreserves : Type 0
ReductionPreserves = (t : Task) (level : ℕ) → accepted_task t ≡ true → Preserves t (reduced_task t level) (by_original t level)

-- a list of actions, each n replaced by the number at place n in kind 7 of an origin file
unfoldable pub by_origin_file : List ℕ → List ℕ → List ℕ
by_origin_file origin plan = map (λ n. get_or (origin_of origin).actions n 0) plan

-- what the files say that reduction writes for a task file
pub record FilesPreserve (task : List ℕ) (level signer : ℕ) : Type 0 where
  -- the reduced file is accepted, and reads as the reduced task under the signer; likewise the origin file
  pub reduced_reads : read_task (reduced_file (task_of task) level signer) ≡ under (reduced_task (task_of task) level) signer
  pub origin_reads : read_origin (origins_file (task_of task) level signer) ≡ under (origins_at (task_of task) level) signer
  -- the reduced file has as many actions as kind 7 has numbers
  pub as_many : length (origin_of (origins_file (task_of task) level signer)).actions ≡ action_count (task_of (reduced_file (task_of task) level signer))
  -- it is no longer than the file that it came from
  pub no_longer : length (reduced_file (task_of task) level signer) ≤ length task
  -- plans of the one file's task and of the other's, by the numbers in the origin file
  pub preserves : Preserves (task_of task) (task_of (reduced_file (task_of task) level signer)) (by_origin_file (origins_file (task_of task) level signer))

-- the same half of demand 3, of files
abbrev pub ReductionOfFiles : Type 0
ReductionOfFiles = (task : List ℕ) (level signer : ℕ) → Octets task → check_task task ≡ done → valid_signer signer ≡ true → FilesPreserve task level signer
