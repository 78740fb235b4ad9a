-- A file read: refused, or its content under its signer.
use Rattle.std.specs.Prelude.{ℕ, cond, List}
use Rattle.files.specs.Outcome.{is_done, Outcome}
use Rattle.files.specs.Records.{signer_of}
use Rattle.files.specs.Task.{Task}
use Rattle.files.specs.TaskFile.{check_task, task_of}
use Rattle.files.specs.OriginFile.{Origin, check_origin, origin_of}
use Rattle.files.specs.PlanFile.{check_plan_file, plan_of}

pub data Reading (A : Type 0) : Type 0 where
  refused : Outcome → Reading A
  under : A → ℕ → Reading A

abbrev pub reading : {A : Type 0} → Outcome → A → ℕ → Reading A
reading o content signer = cond (is_done o) (under content signer) (refused o)

unfoldable pub read_task : List ℕ → Reading Task
read_task s = reading (check_task s) (task_of s) (signer_of s)

unfoldable pub read_origin : List ℕ → Reading Origin
read_origin s = reading (check_origin s) (origin_of s) (signer_of s)

unfoldable pub read_plan : ℕ → List ℕ → Reading (List ℕ)
read_plan actions s = reading (check_plan_file actions s) (plan_of s) (signer_of s)
