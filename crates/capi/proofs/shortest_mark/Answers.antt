-- The answer of the call, as numbers.
use mathlib.Core.Path.{refl}
use Rattle.files.proofs.Stages.{by_other}
use Rattle.marking.specs.Mark.{marked_of}
use Rattle.capi.specs.Numbers.{at, outcome_numbers, marked_numbers}
use Rattle.capi.proofs.Written.{written}
use Rattle.capi.proofs.shortest_mark.Goals as goal

pub returns : goal.returns
unfolding marked_numbers outcome_numbers at
returns c = by_other marked_numbers c.mark.ensures (written (λ r. marked_numbers (marked_of r)) (λ r. refl) _ _ c.write.ensures)
