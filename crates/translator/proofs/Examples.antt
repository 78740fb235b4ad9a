-- Every case of the table is as the document says: the definitions compute to it.
use mathlib.Core.Path.{◌≡◌, refl}
use mathlib.Core.Bool.{true}
use Rattle.files.specs.Below.{all_of}
use Rattle.files.specs.Examples.{as_expected}
use Rattle.files.proofs.Computes as files
use Rattle.digits.proofs.Computes as digits
use Rattle.translator.proofs.Computes.{computes}
use Rattle.translator.specs.Examples.{cases}

pub examples : all_of as_expected cases ≡ true
unfolding as_expected files.computes digits.computes computes cases
examples = refl
