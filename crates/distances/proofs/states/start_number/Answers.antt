use Rattle.std.proofs.Common.{arith, ◌-◌, ◌<◌, get_or, refl}
use native.Mathlib.Nat.{mul_comm}
use Rattle.plans.specs.Tally.{list_state}
use Rattle.lookup.proofs.MoveLoops.{product_most}
use Rattle.distances.proofs.StateLoops.{number_begin, number_next, number_few, number_end}
use Rattle.distances.proofs.states.start_number.Goals as goal

pub loop-v-init : goal.loop-v-init
loop-v-init c = (number_begin c.args.sizes.now (list_state c.args.starts.now) _, omega arith)

pub overflow_mul-number : goal.overflow_mul-number
unfolding list_state
overflow_mul-number c =
    let l = c.loop-v in
    let number = number_few c.args.sizes.now (list_state c.args.starts.now) c.args.variables c.requires.inside l.v l.number l.invariant.1 l.invariant.0 c.requires.states in
    let size : get_or c.args.sizes.now (l.v - 1) 0 < 256 = omega arith in
    omega (arith, product_most _ _ number size, mul_comm l.number (get_or c.args.sizes.now (l.v - 1) 0))

pub overflow_add-number : goal.overflow_add-number
unfolding list_state
overflow_add-number c =
    let l = c.loop-v in
    let number = number_few c.args.sizes.now (list_state c.args.starts.now) c.args.variables c.requires.inside l.v l.number l.invariant.1 l.invariant.0 c.requires.states in
    let size : get_or c.args.sizes.now (l.v - 1) 0 < 256 = omega arith in
    let start : get_or c.args.starts.now (l.v - 1) 0 < 256 = omega arith in
    omega (arith, product_most _ _ number size, mul_comm l.number (get_or c.args.sizes.now (l.v - 1) 0), start)

pub loop-v-preserved : goal.loop-v-preserved
unfolding list_state
loop-v-preserved c =
    let l = c.loop-v in
    (number_next c.args.sizes.now (list_state c.args.starts.now) _ _ _ _ _ c.loop-v-test.true l.invariant.1 l.invariant.0 refl refl, omega arith)

pub returns : goal.returns
unfolding list_state
returns c =
    number_end c.args.sizes.now (list_state c.args.starts.now) _ c.args.starts.now _ _ c.loop-v-test.false c.loop-v.invariant.0
