-- The answer of the call, as numbers.
use mathlib.Core.Path.{refl}
use Rattle.files.proofs.Stages.{by_other}
use Rattle.sheets.specs.Sheet.{laid_of}
use Rattle.capi.specs.Numbers.{at, outcome_numbers, laid_numbers}
use Rattle.capi.proofs.Written.{written}
use Rattle.capi.proofs.shortest_sheet.Goals as goal

pub returns : goal.returns
unfolding laid_numbers outcome_numbers at
returns c = by_other laid_numbers c.sheet.ensures (written (λ r. laid_numbers (laid_of r)) (λ r. refl) _ _ c.write.ensures)
