-- The digits stand at the front of the buffer, which has room for any number's.
use Rattle.std.proofs.Common.{arith}
use Rattle.digits.proofs.GroupLaws.{decimal_length}
use Rattle.digits.proofs.PutLaws.{decimal_counts, decimal_whole}
use Rattle.digits.proofs.groups.decimal.Goals as goal

pub put_digits-requires : goal.put_digits-requires
put_digits-requires g c = record { counted = c.places-count.ensures; room = omega (arith, c.places-count.ensures, c.told-out, decimal_length c.args.n) }

pub returns-clause-counts : goal.returns-clause-counts
returns-clause-counts g c = decimal_counts c.args.out.now c.put_digits.new.buffer c.places-count.result c.args.n c.told-out c.places-count.ensures c.put_digits.ensures

pub returns-clause-out_after : goal.returns-clause-out_after
returns-clause-out_after g c = decimal_whole c.args.out.now c.put_digits.new.buffer c.places-count.result c.args.n c.told-out c.places-count.ensures c.put_digits.ensures
