-- The number's word gets its bit, and no other word changes.
use Rattle.bits.proofs.SetLoops.{added}
use Rattle.bits.proofs.sets.add.Goals as goal

pub returns : goal.returns
returns c = added _ _ _ c.requires.room c.requires.few
