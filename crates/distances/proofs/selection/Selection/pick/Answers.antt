use Rattle.distances.proofs.selection.Selection.pick.Goals as goal

pub loop-s-preserved : goal.loop-s-preserved
loop-s-preserved c = c.better-best.ensures.picks _ c.loop-s.auto.s c.loop-s.invariant
