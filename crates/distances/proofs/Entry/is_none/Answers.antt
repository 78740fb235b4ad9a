use Rattle.distances.proofs.EntryLaws.{is_none_lem}
use Rattle.distances.proofs.Entry.is_none.Goals as goal

pub returns : goal.returns
returns c = is_none_lem _ _ c.none-far.ensures
