-- The examples come out as they should: the definitions compute to it.
use mathlib.Core.Path.{◌≡◌, refl}
use mathlib.Core.Bool.{true}
use Rattle.files.proofs.Computes as files
use Rattle.plans.proofs.Computes as plans
use Rattle.marking.proofs.Computes.{computes}
use Rattle.marking.specs.Examples.{restoring_is_no_threat, cheaper_covers}

pub restoring_no_threat : restoring_is_no_threat ≡ true
unfolding restoring_is_no_threat files.computes plans.computes computes
restoring_no_threat = refl

pub cheaper_covers_lem : cheaper_covers ≡ true
unfolding cheaper_covers files.computes plans.computes computes
cheaper_covers_lem = refl
