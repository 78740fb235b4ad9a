-- The loop's invariant: the states with the values below `value` have been offered the entry.
use Prim.Native.Nat.{◌+◌, ◌*◌}
use lib.Dec.{eqb}
use Rattle.distances.proofs.OfferLoops.{Turns}
use Rattle.distances.proofs.selection.Selection.offer_values.Given as goal

abbrev pub invariant-loop-value : goal.invariant-loop-value
invariant-loop-value l =
    Turns (λ z s. eqb s (l.number + l.weight * z)) l.size l.entry l.initial.entries l.initial.self l.entries l.self l.value
