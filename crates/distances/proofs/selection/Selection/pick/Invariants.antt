-- The loop's invariant: the best state below `s` is picked.
use lib.ListN.{length}
use Rattle.distances.specs.Settling.{Picked}
use Rattle.distances.proofs.selection.Selection.pick.Given as goal

abbrev pub invariant-loop-s : goal.invariant-loop-s
invariant-loop-s l = Picked l.entries l.self.settled (length l.entries) l.from l.s l.best
