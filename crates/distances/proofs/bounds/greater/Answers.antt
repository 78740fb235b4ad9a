use Rattle.distances.proofs.BoundLaws.{greater_first, greater_second}
use Rattle.distances.proofs.bounds.greater.Goals as goal

pub returns-then-is_less : goal.returns-then-is_less
returns-then-is_less c = greater_second _ _ _ c.is_less.ensures c.if-is_less.true

pub returns-else-is_less : goal.returns-else-is_less
returns-else-is_less c = greater_first _ _ _ c.is_less.ensures c.if-is_less.false
