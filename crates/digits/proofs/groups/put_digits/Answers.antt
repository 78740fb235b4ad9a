use Prim.Native.Nat.{◌-◌, ◌%◌}
use native.Mathlib.Omega.{arith}
use Rattle.digits.specs.Groups.{three}
use Rattle.digits.proofs.GroupLaws.{decimal_next_length}
use Rattle.digits.proofs.PutLaws.{sets_same, group_put}
use Rattle.digits.proofs.groups.put_digits.Goals as goal

pub overflow_sub-end : goal.overflow_sub-end
overflow_sub-end g c =
    let now = c.loop-rest in
    omega (arith, now.invariant.1, decimal_next_length now.rest c.loop-rest-test.true now.invariant.4)

pub put_three-requires : goal.put_three-requires
put_three-requires g c =
    let now = c.loop-rest in
    let more = decimal_next_length now.rest c.loop-rest-test.true now.invariant.4 in
    record { below = omega arith; room = omega (arith, now.invariant.1, now.invariant.2, more) }

pub loop-rest-preserved : goal.loop-rest-preserved
loop-rest-preserved g c =
    let now = c.loop-rest in
    let taken = c.loop-rest-test.true in
    let put = c.put_three in
    let at = c.args.at in
    let more = decimal_next_length now.rest taken now.invariant.4 in
    let same = sets_same now.buffer put.new.buffer (now.end - 3) (three (now.rest % 1000)) put.ensures in (
      group_put now.buffer put.new.buffer _ at now.end now.rest now.invariant.0 now.invariant.1 taken now.invariant.4 put.ensures,
      omega (arith, now.invariant.1, more),
      omega (arith, now.invariant.2, same),
      omega (arith, now.invariant.3, same),
      omega (arith, now.invariant.4),
    )
