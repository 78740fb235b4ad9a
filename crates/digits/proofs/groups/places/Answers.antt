use native.Mathlib.Omega.{arith}
use Rattle.digits.proofs.GroupLaws.{decimal_length, decimal_next_length}
use Rattle.digits.proofs.groups.places.Goals as goal

pub overflow_add-count : goal.overflow_add-count
overflow_add-count c =
    let now = c.loop-rest in
    record { fits = omega (arith, now.invariant.0, decimal_length c.args.n) }

pub loop-rest-preserved : goal.loop-rest-preserved
loop-rest-preserved c =
    let now = c.loop-rest in
    let more = decimal_next_length now.rest c.loop-rest-test.true now.invariant.1 in
    (omega (arith, now.invariant.0, more), omega (arith, now.invariant.1))

pub overflow_add-result : goal.overflow_add-result
overflow_add-result c =
    let now = c.loop-rest in
    record { fits = omega (arith, now.invariant.0, c.front_places.ensures, decimal_length c.args.n) }
