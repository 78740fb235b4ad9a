use Rattle.bits.proofs.SetLoops.{keep_begin, keep_next, keep_end}
use Rattle.bits.proofs.sets.keep.Goals as goal

pub loop-i-init : goal.loop-i-init
loop-i-init c = keep_begin _ _ _

pub loop-i-preserved : goal.loop-i-preserved
loop-i-preserved c = keep_next _ _ _ _ _ c.loop-i.invariant c.loop-i-test.true c.requires.words_room

pub shape_of-words : goal.shape_of-words
shape_of-words c = c.loop-i.invariant.same

pub returns : goal.returns
returns c = keep_end _ _ _ _ _ c.loop-i.invariant c.loop-i-test.false
