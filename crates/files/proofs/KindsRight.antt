-- Task, origin and plan files are right: what they hold is accepted, what is accepted is written, and both read back.
use Prim.Native.Nat.{ℕ, ◌≤◌}
use mathlib.Core.Path.{◌≡◌, ap}
use Rattle.files.specs.Outcome.{Outcome, done}
use Rattle.files.specs.Accepted.{accepted_task, accepted_origin, accepted_plan}
use Rattle.files.specs.Kinds.{KindRight}
use Rattle.files.specs.OriginFile.{check_origin, origin_of, origin_file}
use Rattle.files.specs.PlanFile.{check_plan_file, plan_of, plan_file}
use Rattle.files.specs.Reading.{read_task, read_origin, read_plan}
use Rattle.files.specs.TaskFile.{check_task, task_of, task_file}
use Rattle.files.proofs.Listed.{task_check_done, origin_check_done, plan_check_done}
use Rattle.files.proofs.OriginRoundTrip.{origin_accepted, origin_signer_valid, origin_reads_back, origin_file_unique}
use Rattle.files.proofs.PlanRoundTrip.{plan_accepted, plan_signer_valid, plan_reads_back, plan_file_unique}
use Rattle.files.proofs.ReadAs.{read_as}
use Rattle.files.proofs.TaskChecked.{task_accepted, task_signer_valid}
use Rattle.files.proofs.TaskRoundTrip.{task_reads_back, task_file_unique}

number : {o : Outcome} → o ≡ done → o.number ≡ 0
number e = ap (λ (o : Outcome). o.number) e

pub tasks_right : KindRight check_task task_of accepted_task task_file
unfolding read_task
tasks_right =
    record {
      held = λ f octets e. task_accepted f octets (number e);
      signed = λ f octets e. task_signer_valid f octets (number e);
      passes = λ t signer a v. task_check_done _ (read_as _ _ _ t signer (task_reads_back t signer a v)).0;
      back = task_reads_back;
      one = task_file_unique;
    }

pub origins_right : KindRight check_origin origin_of accepted_origin origin_file
unfolding read_origin
origins_right =
    record {
      held = λ f octets e. origin_accepted f octets (number e);
      signed = λ f octets e. origin_signer_valid f octets (number e);
      passes = λ o signer a v. origin_check_done _ (read_as _ _ _ o signer (origin_reads_back o signer a v)).0;
      back = origin_reads_back;
      one = origin_file_unique;
    }

pub plans_right : (actions : ℕ) → actions ≤ 65536 → KindRight (check_plan_file actions) plan_of (accepted_plan actions) plan_file
unfolding read_plan
plans_right actions few =
    record {
      held = λ f octets e. plan_accepted actions f (number e);
      signed = λ f octets e. plan_signer_valid actions f octets (number e);
      passes = λ plan signer a v. plan_check_done _ actions (read_as _ _ _ plan signer (plan_reads_back actions plan signer few a v)).0;
      back = λ plan signer a v. plan_reads_back actions plan signer few a v;
      one = plan_file_unique actions;
    }
