-- The marks are set in an array of zeros.
use Rattle.reduction.specs.Dense.{changed_at}
use Rattle.reduction.proofs.FreshMarks.{fresh_marks}
use Rattle.reduction.proofs.named.changed.Goals as goal

pub returns : goal.returns
unfolding changed_at
returns c = fresh_marks 64 _ _ c.threatened.ensures
