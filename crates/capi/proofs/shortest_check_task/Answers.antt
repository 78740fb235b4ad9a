-- The answer of the call, as numbers.
use mathlib.Core.Path.{refl, ap, ◌∙◌}
use Rattle.files.specs.Outcome.{outcome_of}
use Rattle.capi.specs.Numbers.{outcome_numbers}
use Rattle.capi.proofs.Written.{written}
use Rattle.capi.proofs.shortest_check_task.Goals as goal

pub returns : goal.returns
returns c = written (λ r. outcome_numbers (outcome_of r)) (λ r. refl) _ _ c.write.ensures ∙ ap outcome_numbers c.check_task.ensures
