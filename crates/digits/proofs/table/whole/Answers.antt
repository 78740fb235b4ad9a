-- One test over the whole table, which the checker computes, gives its rule at each entry. The list is the code's own,
-- under the name that Rattle gives the constant.
use Rattle.std.proofs.Common.{refl}
use Rattle.digits.specs.Groups.{packed_digits}
use Rattle.digits.specs.declared.table.TheConstants.{DIGITS}
use Rattle.digits.proofs.TableLaws.{entry_follows}
use Rattle.digits.proofs.table.whole.Goals as goal

pub returns : goal.returns
unfolding packed_digits
returns c = record { entry = entry_follows packed_digits DIGITS refl }
