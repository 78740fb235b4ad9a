use Rattle.std.proofs.Common.{arith, ◌<◌, get_or, refl}
use Rattle.distances.proofs.Goals.{numbering_begin, number_fits, numbering_next, numbering_end}
use Rattle.distances.proofs.goal.number.Goals as goal

pub loop-v-init : goal.loop-v-init
loop-v-init c = numbering_begin _ _ _

pub overflow_mul-number : goal.overflow_mul-number
overflow_mul-number c =
    let more = c.loop-v-test.true in
    let cell_few : get_or c.args.goal.now c.loop-v.v 0 < 256 = omega arith in
    omega (arith, number_fits _ _ _ _ _ _ _ c.loop-v.invariant more (c.requires.weights_few _ more) cell_few c.set_by.ensures c.requires.variables_few)

pub overflow_add-number : goal.overflow_add-number
overflow_add-number c =
    let more = c.loop-v-test.true in
    let cell_few : get_or c.args.goal.now c.loop-v.v 0 < 256 = omega arith in
    omega (arith, number_fits _ _ _ _ _ _ _ c.loop-v.invariant more (c.requires.weights_few _ more) cell_few c.set_by.ensures c.requires.variables_few)

pub loop-v-preserved : goal.loop-v-preserved
loop-v-preserved c =
    let more = c.loop-v-test.true in
    let cell_few : get_or c.args.goal.now c.loop-v.v 0 < 256 = omega arith in
    numbering_next _ _ _ _ _ _ _ c.loop-v.invariant more (c.requires.weights_few _ more) cell_few c.set_by.ensures refl

pub returns : goal.returns
returns c = numbering_end _ _ _ _ _ c.loop-v.invariant c.loop-v-test.false
