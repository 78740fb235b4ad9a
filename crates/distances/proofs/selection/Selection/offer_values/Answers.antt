use Rattle.distances.proofs.OfferLoops.{turns_next}
use Rattle.distances.proofs.selection.Selection.offer_values.Goals as goal

pub loop-value-preserved : goal.loop-value-preserved
loop-value-preserved c = turns_next _ _ _ _ _ _ _ _ c.loop-value.invariant _ _ c.lower.auto.entries c.lower.ensures
