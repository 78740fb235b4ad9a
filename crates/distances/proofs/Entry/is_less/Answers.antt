use Rattle.std.proofs.Common.{arith, ◌∙◌}
use Rattle.std.proofs.lemmas.Grind.{common_steps}
use Rattle.plans.specs.Plan.{at_most}
use Rattle.distances.specs.Entries.{less_entry}
use Rattle.distances.proofs.Entry.is_less.Goals as goal

pub returns : goal.returns
unfolding less_entry at_most
returns c = c.lt.ensures ∙ grind (arith, common_steps)
