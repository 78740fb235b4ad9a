-- The answer of the call, as numbers.
use mathlib.Core.Path.{refl}
use Rattle.files.proofs.Stages.{by_other}
use Rattle.search.specs.Planner.{planned_of}
use Rattle.capi.specs.Numbers.{at, outcome_numbers, planned_numbers}
use Rattle.capi.proofs.Written.{written}
use Rattle.capi.proofs.shortest_plan.Goals as goal

pub returns : goal.returns
unfolding planned_numbers outcome_numbers at
returns c = by_other planned_numbers c.plan-answer.ensures.stages (written (λ r. planned_numbers (planned_of r)) (λ r. refl) _ _ c.write.ensures)
