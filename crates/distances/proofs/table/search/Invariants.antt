-- Each round settles the open state with the least entry; the states that are open grow fewer.
use lib.ListN.{length}
use Rattle.distances.specs.Selecting.{Selecting}
use Rattle.distances.specs.Bounds.{NoneAbove}
use Rattle.distances.proofs.Searching.{open_count, Searching}
use Rattle.distances.proofs.table.search.Given as goal

abbrev pub invariant-loop-s : goal.invariant-loop-s
invariant-loop-s l = Searching l.task l.entries l.selection.settled l.s × Selecting l.entries l.selection × NoneAbove (length l.entries) l.entries l.bound

abbrev pub decreases-loop-s : goal.decreases-loop-s
decreases-loop-s l = open_count l.selection.settled
