use mathlib.Core.Path.{refl}
use Rattle.distances.specs.Table.{entry_of}
use Rattle.distances.proofs.Entry.none.Goals as goal

pub returns : goal.returns
unfolding entry_of
returns c = refl
