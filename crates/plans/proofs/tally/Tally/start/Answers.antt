-- No step is taken yet.
use mathlib.Core.Path.{refl}
use Rattle.plans.specs.Plan.{no_steps}
use Rattle.plans.specs.Tally.{state_of, total_in}
use Rattle.plans.proofs.tally.Tally.start.Goals as goal

pub returns : goal.returns
unfolding state_of total_in no_steps
returns c = record { reached = refl; counted = refl }
