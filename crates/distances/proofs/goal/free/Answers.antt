use Rattle.std.proofs.Common.{arith}
use Rattle.bits.proofs.WordLoops.{mark_begin, mark_fits, mark_most, mark_next, mark_below}
use Rattle.distances.proofs.goal.free.Goals as goal

pub loop-v-init : goal.loop-v-init
loop-v-init c = mark_begin _ _

pub overflow_mul-word : goal.overflow_mul-word
overflow_mul-word c = omega (arith, mark_fits _ _ _ _ c.loop-v.invariant c.loop-v-test.true c.requires)

pub overflow_add-word : goal.overflow_add-word
overflow_add-word c = omega (arith, mark_most _ _ _ _ c.loop-v.invariant c.loop-v-test.true _ c.asks_nothing.ensures c.requires)

pub loop-v-preserved : goal.loop-v-preserved
loop-v-preserved c = mark_next _ _ _ _ c.loop-v.invariant c.loop-v-test.true _ c.asks_nothing.ensures

pub returns : goal.returns
returns c = mark_below _ _ _ _ c.loop-v.invariant c.loop-v-test.false
