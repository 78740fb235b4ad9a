-- The loop's invariant: of the blocks before `b` the best state is picked.
use Prim.Native.Nat.{◌*◌}
use lib.ListN.{length}
use Rattle.distances.specs.Settling.{Picked}
use Rattle.distances.proofs.selection.Selection.next.Given as goal

abbrev pub invariant-loop-b : goal.invariant-loop-b
invariant-loop-b l = Picked l.entries l.self.settled (length l.entries) 0 (64 * l.b) l.best
