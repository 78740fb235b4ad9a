use mathlib.Core.Path.{refl}
use Rattle.plans.specs.Plan.{no_steps}
use Rattle.distances.specs.Table.{entry_of}
use Rattle.distances.proofs.Entry.at_goal.Goals as goal

pub returns : goal.returns
unfolding entry_of no_steps
returns c = refl
