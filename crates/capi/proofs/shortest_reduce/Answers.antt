-- The answer of the call, as numbers.
use mathlib.Core.Path.{refl}
use Rattle.files.proofs.Stages.{by_other}
use Rattle.reduction.specs.Reduce.{reduced_of}
use Rattle.capi.specs.Numbers.{at, outcome_numbers, reduced_numbers}
use Rattle.capi.proofs.Written.{written}
use Rattle.capi.proofs.shortest_reduce.Goals as goal

pub returns : goal.returns
unfolding reduced_numbers outcome_numbers at
returns c = by_other reduced_numbers c.reduce-answer.ensures (written (λ r. reduced_numbers (reduced_of r)) (λ r. refl) _ _ c.write.ensures)
