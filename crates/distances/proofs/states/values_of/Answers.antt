use Rattle.std.proofs.Common.{refl}
use Rattle.files.proofs.Filling.{zeros_entry}
use Rattle.distances.proofs.StateLoops.{decode_begin, decode_next, decode_end}
use Rattle.distances.proofs.states.values_of.Goals as goal

pub loop-v-init : goal.loop-v-init
loop-v-init c = decode_begin _ _ _ _ (zeros_entry 64) refl

pub loop-v-preserved : goal.loop-v-preserved
loop-v-preserved c =
    let l = c.loop-v in
    decode_next c.args.sizes.now _ _ l.values _ _ _ l.invariant c.loop-v-test.true c.requires.few refl _ _ c.divided-value.ensures.value c.divided-value.ensures.others

pub returns : goal.returns
returns c = decode_end _ _ _ _ _ _ c.loop-v.invariant c.loop-v-test.false
