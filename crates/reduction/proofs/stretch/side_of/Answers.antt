-- The test decides the definition.
use Rattle.reduction.proofs.StretchLaws.{side_first, side_second}
use Rattle.reduction.proofs.stretch.side_of.Goals as goal

pub returns-then-side-eq0 : goal.returns-then-side-eq0
returns-then-side-eq0 c = side_first _ _ _ c.if-side-eq0.true

pub returns : goal.returns
returns c = side_second _ _ _ c.if-side-eq0.false
