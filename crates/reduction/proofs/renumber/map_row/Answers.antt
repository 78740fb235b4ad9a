use Rattle.std.proofs.Common.{rules}
use Rattle.reduction.proofs.renumber.map_row.Goals as goal

pub returns : goal.returns
returns c = λ i h. let e = c.set_row.ensures.cells i 0 h in search rules
