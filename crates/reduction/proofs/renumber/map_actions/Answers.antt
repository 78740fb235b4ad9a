use Rattle.std.proofs.Common.{arith}
use Rattle.std.proofs.lemmas.Grind.{common_steps}
use Rattle.std.proofs.lemmas.List.{get_or_default}
use Rattle.reduction.proofs.renumber.map_actions.Goals as goal

pub returns : goal.returns
returns g c =
    λ i d h. let e = c.set_row.ensures.cells i d h in let known = c.requires.numbers.known i h in grind (arith, common_steps, get_or_default)
