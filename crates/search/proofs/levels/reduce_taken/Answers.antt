-- What reduction says at the level taken.
use mathlib.Core.Path.{sym}
use Rattle.search.proofs.levels.reduce_taken.Goals as goal

pub returns : goal.returns
returns c = rw (sym c.taken_level-taken.ensures) c.reduce.ensures
