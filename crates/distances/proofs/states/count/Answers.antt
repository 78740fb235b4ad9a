use Rattle.std.proofs.Common.{arith, refl}
use Rattle.distances.proofs.StateLoops.{weight_first, weight_next, count_over, count_end}
use Rattle.distances.proofs.states.count.Goals as goal

pub loop-v-init : goal.loop-v-init
loop-v-init c = (weight_first c.args.sizes.now, omega arith, omega arith)

pub returns-then-states-gt-MOST_STATES : goal.returns-then-states-gt-MOST_STATES
returns-then-states-gt-MOST_STATES c =
    count_over _ _ _ _ c.requires.least c.loop-v-test.true (weight_next c.args.sizes.now _ _ _ c.loop-v.invariant.0 refl) c.if-states-gt-MOST_STATES.true

pub loop-v-preserved : goal.loop-v-preserved
loop-v-preserved c = (weight_next c.args.sizes.now _ _ _ c.loop-v.invariant.0 refl, omega arith, omega arith)

pub returns : goal.returns
returns c = count_end c.args.sizes.now _ _ _ c.loop-v.invariant.1 c.loop-v-test.false c.loop-v.invariant.0
