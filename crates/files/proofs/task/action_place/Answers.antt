-- It stands behind the actions before it.
use Rattle.std.proofs.Common.{ℕ, ap, arith}
use mathlib.Core.Path.{◌∙◌}
use Rattle.files.specs.Records.{records_end}
use Rattle.files.specs.TaskFile.{action_place}
use Rattle.files.proofs.task.action_place.Goals as goal

pub returns : goal.returns
unfolding action_place
returns c = record { is = c.records_after.ensures.is ∙ ap (λ (p : ℕ). records_end c.args.s.now p c.args.a) c.actions_place.ensures.is; below = omega (arith, c.records_after.ensures.at_most, c.actions_place.ensures.below) }
