-- The answer of the call, as numbers.
use mathlib.Core.Path.{refl, ap, ◌∙◌}
use Rattle.plans.specs.Check.{checked_of, with_total}
use Rattle.plans.specs.Plan.{no_steps}
use Rattle.capi.specs.Numbers.{at, outcome_numbers, checked_numbers}
use Rattle.capi.proofs.Written.{written}
use Rattle.capi.proofs.shortest_check_plan.Goals as goal

pub returns : goal.returns
unfolding checked_numbers outcome_numbers at with_total no_steps
returns c = written (λ r. checked_numbers (checked_of r)) (λ r. refl) _ _ c.write.ensures ∙ ap checked_numbers c.check_plan.ensures
