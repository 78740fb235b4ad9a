-- Demand 1: each call answers by its stages, with an outcome of its list.
use Rattle.files.proofs.Listed.{task_listed, origin_listed}
use Rattle.plans.proofs.PlanChecker.{check_answers}
use Rattle.marking.proofs.Answers.{mark_answers}
use Rattle.reduction.proofs.Answers.{reduce_answers}
use Rattle.reduction.proofs.StretchRight.{stretch_answers}
use Rattle.search.proofs.Answers.{plan_answers}
use Rattle.sheets.proofs.Answers.{sheet_answers}
use Rattle.translator.proofs.Answers.{translate_answers}
use Rattle.demands.specs.Demands.{Demand1}

pub demand_1 : Demand1
demand_1 =
    record {
      check_task_lem = task_listed;
      check_origin_lem = origin_listed;
      check_plan_lem = check_answers;
      mark = mark_answers;
      reduce = reduce_answers;
      conditions = stretch_answers;
      plan = plan_answers;
      sheet = sheet_answers;
      translate = translate_answers;
    }
