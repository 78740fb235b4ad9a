-- Demand 2: where nothing is refused, the answers and the buffers are what 01's steps define; files read back.
use Prim.Native.Nat.{ℕ, ◌+◌, ◌≤◌}
use mathlib.Core.Path.{◌≡◌, ap}
use mathlib.Core.Bool.{true}
use mathlib.Core.List.{List}
use native.Mathlib.Omega.{arith}
use lib.Dec.{eqb}
use lib.ListN.{length}
use borrow.Author.Tests.{ne_eqb}
use Rattle.files.specs.Outcome.{Outcome, done}
use Rattle.files.specs.Accepted.{valid_signer, accepted_task}
use Rattle.files.specs.Bytes.{Octets}
use Rattle.files.specs.Task.{Task, action_count, fact_count}
use Rattle.files.specs.TaskFile.{check_task, task_of}
use Rattle.files.proofs.KindsRight.{tasks_right, origins_right, plans_right}
use Rattle.files.proofs.Logic.{split}
use Rattle.files.proofs.TaskChecked.{task_accepted}
use Rattle.files.proofs.Valid.{task_valid}
use Rattle.plans.proofs.PlanChecker.{checker_right, list_right}
use Rattle.marking.specs.Mark.{marks_fit, MarkBuffers, mark_buffers}
use Rattle.marking.proofs.Answers.{mark_fits, marked_fits}
use Rattle.marking.proofs.RoundBound.{marking_fixed, marking_rounds}
use Rattle.reduction.specs.Answers.{LongEnough}
use Rattle.reduction.specs.Reduce.{Buffers, valid_reduction}
use Rattle.reduction.specs.Task.{mark_level, turn_count}
use Rattle.reduction.proofs.Answers.{marks_fit_lem, buffers_fit, reduce_fits}
use Rattle.reduction.proofs.Levels.{five_turns, other_turns}
use Rattle.reduction.proofs.ReachPlans.{reached_right}
use Rattle.reduction.proofs.StretchRight.{stretch_length}
use Rattle.reduction.proofs.TurnsRight.{turns_right}
use Rattle.demands.specs.Demands.{StepsRight, Demand2}

-- the turn count of an accepted task
turns_few : (t : Task) (level : ℕ) → accepted_task t ≡ true → turn_count t level ≤ action_count t + fact_count t + 1
turns_few t level ok =
    split (eqb level 5)
    (λ five. omega (arith, five_turns t level five, (turns_right t ok).few_turns))
    (λ other. omega (arith, other_turns t level other))

module _ (task : List ℕ) (level signer : ℕ) (b : Buffers) (octets : Octets task) (e : check_task task ≡ done) (v : valid_reduction level ≡ true) (s : valid_signer signer ≡ true) (long : LongEnough task level signer b) where
  abbrev lent : MarkBuffers
  lent = mark_buffers b.actions b.facts

  accepted : accepted_task (task_of task) ≡ true
  accepted = task_accepted task octets (ap (λ (x : Outcome). x.number) e)

  fit : marks_fit (task_of task) (length b.actions) (length b.facts) ≡ done
  fit = marks_fit_lem task level signer b e v s long

  steps_right : StepsRight task level signer b
  steps_right =
      record {
        marks = λ v'. mark_fits task level lent e v' fit;
        marked = λ v'. marked_fits task level lent e v' fit;
        reduced = reduce_fits task level signer b e v s long;
        buffers = buffers_fit task level signer b e v s long;
        last = (marking_fixed (task_of task) (mark_level level) (task_valid (task_of task) accepted)).same;
        rounds = marking_rounds (task_of task) (mark_level level);
        turns = turns_few (task_of task) level accepted;
        no_turns = λ d. other_turns (task_of task) level (ne_eqb level 5 d);
      }

pub demand_2 : Demand2
demand_2 =
    record {
      checker = checker_right;
      lists = list_right;
      steps = steps_right;
      reach = reached_right;
      turns = turns_right;
      tasks = tasks_right;
      origins = origins_right;
      plans = λ actions few. plans_right actions (omega arith);
      stretch = stretch_length;
    }
