use Rattle.std.proofs.Common.{rules}
use Rattle.reduction.proofs.renumber.value_rows.Goals as goal

pub returns : goal.returns
returns c = λ j i h k. let e = c.set_rows.ensures.cells j i h k in search rules
