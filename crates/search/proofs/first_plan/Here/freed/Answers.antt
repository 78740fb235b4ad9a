use Prim.Native.Nat.{◌-◌}
use native.Mathlib.Omega.{arith}
use lib.Bits.{and_le_r}
use lib.Count.{trailing_le}
use Rattle.search.proofs.FirstBits.{zeros_below}
use Rattle.search.proofs.HereLoops.{free_begin, free_few, free_next, free_end}
use Rattle.search.proofs.first_plan.Here.freed.Goals as goal

pub loop-rest-init : goal.loop-rest-init
loop-rest-init c = free_begin c.args.self.now _ c.ranges.word.fits

pub overflow_cast-sum : goal.overflow_cast-sum
overflow_cast-sum c = omega (arith, trailing_le 64 c.loop-rest.rest)

pub offset_bounds-self-rest : goal.offset_bounds-self-rest
offset_bounds-self-rest c = omega (arith, trailing_le 64 c.loop-rest.rest)

pub bounds-self-rest : goal.bounds-self-rest
bounds-self-rest c = let l = c.loop-rest in omega (arith, zeros_below 64 l.rest c.loop-rest-test.true l.invariant.few)

pub overflow_add-sum : goal.overflow_add-sum
overflow_add-sum c =
    let l = c.loop-rest in
    omega (arith, free_few c.args.self.now c.args.word l.sum l.rest l.invariant c.loop-rest-test.true c.requires)

pub loop-rest-smaller : goal.loop-rest-smaller
loop-rest-smaller c = let rest = c.loop-rest.rest in omega (arith, and_le_r rest (rest - 1), c.loop-rest-test.true)

pub loop-rest-preserved : goal.loop-rest-preserved
loop-rest-preserved c =
    let l = c.loop-rest in
    free_next c.args.self.now c.args.word l.sum l.rest l.invariant c.loop-rest-test.true

pub returns : goal.returns
returns c = free_end _ _ _ _ c.loop-rest.invariant c.loop-rest-test.false
