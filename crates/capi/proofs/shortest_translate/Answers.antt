-- The answer of the call, as numbers.
use mathlib.Core.Path.{refl}
use Rattle.files.proofs.Stages.{by_other}
use Rattle.translator.specs.Translate.{translated_of}
use Rattle.capi.specs.Numbers.{at, outcome_numbers, translated_numbers}
use Rattle.capi.proofs.Written.{written}
use Rattle.capi.proofs.shortest_translate.Goals as goal

pub returns : goal.returns
unfolding translated_numbers outcome_numbers at
returns c = by_other translated_numbers c.translate.ensures (written (λ r. translated_numbers (translated_of r)) (λ r. refl) _ _ c.write.ensures)
