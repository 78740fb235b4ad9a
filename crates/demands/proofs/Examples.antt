-- Every case of the table is as the document says: the definitions compute to it.
use mathlib.Core.Path.{◌≡◌, refl}
use mathlib.Core.Bool.{true}
use Rattle.files.specs.Below.{all_of}
use Rattle.files.specs.Examples.{as_expected}
use Rattle.files.proofs.Computes as files
use Rattle.plans.proofs.Computes as plans
use Rattle.marking.proofs.Computes as marking
use Rattle.reduction.proofs.Computes as reduction
use Rattle.search.proofs.Computes as search
use Rattle.digits.proofs.Computes as digits
use Rattle.demands.proofs.Computes.{computes}
use Rattle.demands.specs.Examples.{cases}

pub examples : all_of as_expected cases ≡ true
unfolding as_expected files.computes plans.computes marking.computes reduction.computes search.computes digits.computes computes
examples = refl
