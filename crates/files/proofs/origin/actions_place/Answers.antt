-- It stands behind the variable origins.
use Rattle.std.proofs.Common.{ap, arith}
use mathlib.Core.Path.{◌∙◌}
use Rattle.files.specs.OriginFile.{origin_actions_place}
use Rattle.files.specs.Records.{records_end}
use Rattle.files.proofs.origin.actions_place.Goals as goal

pub returns : goal.returns
unfolding origin_actions_place
returns c = record { is = c.records_after.ensures.is ∙ ap (records_end c.args.s.now 0) c.variables_in.ensures.is; below = omega (arith, c.records_after.ensures.at_most, c.variables_in.ensures.at_most) }
