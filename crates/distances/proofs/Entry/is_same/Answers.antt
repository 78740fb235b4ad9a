use Rattle.std.proofs.Common.{◌∙◌}
use Rattle.distances.proofs.EntryLaws.{same_numbers}
use Rattle.distances.proofs.Entry.is_same.Goals as goal

pub returns : goal.returns
returns c = c.eq.ensures ∙ same_numbers _ _
