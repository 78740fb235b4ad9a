-- The arrays hold the reduced task and its origins, so the files written are theirs.
use Rattle.reduction.proofs.ReduceStages.{writes_alike}
use Rattle.reduction.proofs.arrays.write_reduced.Goals as goal

pub write-requires : goal.write-requires
write-requires c = c.fill.ensures.within

pub returns : goal.returns
returns c = λ A bits. writes_alike _ _ _ _ _ _ _ _ _ _ (c.fill.ensures.task A bits) (c.fill.ensures.origins A bits) c.write.ensures
