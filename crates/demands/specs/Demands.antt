-- The three demands, of the files, numbers and buffers that are handed over and handed back.
-- Every call's contract is an equation with the definitions that are named here, whatever it is handed.
use Rattle.std.specs.Prelude.{ℕ, ◌+◌, ◌≤◌, ◌≡◌, true, List}
use Rattle.files.specs.Accepted.{valid_signer, accepted_task, accepted_origin, accepted_plan}
use Rattle.files.specs.Bytes.{Octets}
use Rattle.files.specs.Kinds.{KindRight}
use Rattle.files.specs.Listed.{listed, file_refusals}
use Rattle.files.specs.Outcome.{done}
use Rattle.files.specs.OriginFile.{check_origin, origin_of, origin_file}
use Rattle.files.specs.PlanFile.{check_plan_file, plan_of, plan_file}
use Rattle.files.specs.Task.{Task, action_count, fact_count}
use Rattle.files.specs.TaskFile.{check_task, task_of, task_file}
use Rattle.plans.specs.Plan.{IsPlan, Best}
use Rattle.plans.specs.Checker.{CheckAnswers, CheckerRight, ListRight}
use Rattle.marking.specs.Answers.{MarkAnswers}
use Rattle.marking.specs.Mark.{valid_level, MarkBuffers, marked_buffers, mark_whole, mark, mark_after}
use Rattle.marking.specs.Rounds.{next_marks, marking}
use Rattle.reduction.specs.Answers.{ReduceAnswers, LongEnough, StretchAnswers, StretchLength}
use Rattle.reduction.specs.Preserved.{ReductionPreserves, ReductionOfFiles}
use Rattle.reduction.specs.Reduce.{Buffers, with_files, valid_reduction, reduce_whole, reduce, reduce_after}
use Rattle.reduction.specs.Task.{mark_level, turn_count}
use Rattle.reduction.specs.TurnsRight.{ReachedRight, TurnsRight}
use Rattle.search.specs.Answers.{PlanAnswers}
use Rattle.search.specs.Least.{SearchIsLeast}
use Rattle.search.specs.Planner.{Lent, plan_answer, plan_after}
use Rattle.search.specs.PlannerRight.{PlannerPromise, AmpleSuffices, NeverShort}
use Rattle.sheets.specs.Answers.{SheetAnswers}
use Rattle.translator.specs.Translate.{TranslateAnswers}

-- Demand 1: arbitrary files, numbers and buffers; an outcome of the list, and exact buffers.

pub record Demand1 : Type 0 where
  pub check_task_lem : (file : List ℕ) → listed (file_refusals 0 file) (check_task file) ≡ true
  pub check_origin_lem : (file : List ℕ) → listed (file_refusals 0 file) (check_origin file) ≡ true
  pub check_plan_lem : (task plan : List ℕ) → CheckAnswers task plan
  pub mark : (task : List ℕ) (level : ℕ) (b : MarkBuffers) → MarkAnswers task level b
  pub reduce : (task : List ℕ) (level signer : ℕ) (b : Buffers) → ReduceAnswers task level signer b
  pub conditions : (full reduced : List ℕ) (side action : ℕ) → Octets full → Octets reduced → StretchAnswers full reduced side action
  pub plan : (task : List ℕ) (level signer : ℕ) (b : Lent) → PlanAnswers task level signer b
  pub sheet : (task plan page : List ℕ) → SheetAnswers task plan page
  pub translate : (text : List ℕ) (signer : ℕ) (file : List ℕ) → TranslateAnswers text signer file

-- Demand 2: the plan checker, the marks and the reduced file, and the files.

-- where nothing is refused, the answers and the buffers are what 01's steps define; marking alone takes fewer levels
pub record StepsRight (task : List ℕ) (level signer : ℕ) (b : Buffers) : Type 0 where
  pub marks : valid_level level ≡ true → mark task level (record { actions = b.actions; facts = b.facts }) ≡ mark_whole (task_of task) level
  pub marked : valid_level level ≡ true → mark_after task level (record { actions = b.actions; facts = b.facts }) ≡ marked_buffers (task_of task) level (record { actions = b.actions; facts = b.facts })
  pub reduced : reduce task level signer b ≡ reduce_whole (task_of task) level signer
  pub buffers : reduce_after task level signer b ≡ with_files (task_of task) level signer b
  -- the round that ends it changes nothing, and there are at most facts plus actions plus 1
  pub last : next_marks (task_of task) (mark_level level) (marking (task_of task) (mark_level level)).marks ≡ (marking (task_of task) (mark_level level)).marks
  pub rounds : (marking (task_of task) (mark_level level)).rounds ≤ fact_count (task_of task) + action_count (task_of task) + 1
  -- turns are at most actions plus facts plus 1 (02), and there are none at other levels than 5
  pub turns : turn_count (task_of task) level ≤ action_count (task_of task) + fact_count (task_of task) + 1
  pub no_turns : (level ≡ 5 → ⊥) → turn_count (task_of task) level ≡ 0

pub record Demand2 : Type 0 where
  -- the plan checker says yes exactly when the list is a plan, and gives its cost
  pub checker : (task plan : List ℕ) → CheckerRight task plan
  pub lists : (t : Task) (plan : List ℕ) → ListRight t plan
  -- marks, round count and reduced file at each level are those that 01's steps define
  pub steps : (task : List ℕ) (level signer : ℕ) (b : Buffers) → Octets task → check_task task ≡ done → valid_reduction level ≡ true → valid_signer signer ≡ true
      → LongEnough task level signer b → StepsRight task level signer b
  -- only what follows is reached, and plans use reached actions alone; turns end with a task that one more leaves as it found it
  pub reach : (t : Task) → accepted_task t ≡ true → ReachedRight t
  pub turns : (t : Task) → accepted_task t ≡ true → TurnsRight t
  -- a written file reads back as the same task, and one task under one signer has one file; so do origins and plans
  pub tasks : KindRight check_task task_of accepted_task task_file
  pub origins : KindRight check_origin origin_of accepted_origin origin_file
  pub plans : (actions : ℕ) → actions ≤ 512 → KindRight (check_plan_file actions) plan_of (accepted_plan actions) plan_file
  -- the condition stretch has 4 bytes a pair
  pub stretch : (full reduced : List ℕ) (side action : ℕ) → StretchLength full reduced side action

-- Demand 3: the striking is harmless, and the planner is right.

pub record Demand3 : Type 0 where
  -- for every accepted task and at every level, a plan exists in both or in neither, the least cost and the fewest steps at that
  -- cost are alike, and the best plans are the same by original numbers
  pub preserves : ReductionPreserves
  pub files : ReductionOfFiles
  -- where a plan exists, a best one exists
  pub best : (t : Task) → accepted_task t ≡ true → (plan : List ℕ) → IsPlan t plan → (other : List ℕ) × Best t other
  -- each entry of a table is least over all lists of any length, and the plan read off it is the first of the best
  pub search : SearchIsLeast
  -- at every level that the planner takes, "no plan" exactly where there is none; otherwise the plan file holds a best plan of the
  -- full task, with its cost and steps
  pub planner : (task : List ℕ) (level signer : ℕ) (b : Lent) → PlannerPromise task level signer b (plan_answer task level signer b) (plan_after task level signer b)
  -- buffers that are long enough exist: with the header's largest lengths 21 is never met
  pub ample : AmpleSuffices
  pub never_short : NeverShort
