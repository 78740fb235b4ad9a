-- The cell's value where there is one.
use Rattle.lookup.proofs.MoveLoops.{cell_none, cell_some}
use Rattle.lookup.proofs.moves.set_by.Goals as goal

pub returns-then-effect-eq-NO_PAIR : goal.returns-then-effect-eq-NO_PAIR
returns-then-effect-eq-NO_PAIR c = cell_none _ c.if-effect-eq-NO_PAIR.true

pub returns : goal.returns
returns c = cell_some _ c.if-effect-eq-NO_PAIR.false
