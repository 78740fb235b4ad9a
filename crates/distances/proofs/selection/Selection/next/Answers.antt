use Rattle.std.proofs.Common.{arith, ◌<◌, ◌*◌, length, sym, subst}
use Rattle.distances.specs.Settling.{Picked}
use Rattle.distances.proofs.Picking.{pick_block, join_lesser}
use Rattle.distances.proofs.selection.Selection.next.Goals as goal

pub loop-b-preserved : goal.loop-b-preserved
loop-b-preserved c =
    let best = c.loop-b.invariant in
    let begins : 64 * c.loop-b.b < length c.args.entries.now = omega arith in
    let least = c.requires.known _ begins in
    subst (Picked _ _ _ _ _) (sym c.lesser-best.ensures) (pick_block _ _ _ _ _ (join_lesser _ _ _ 0 _ _ _ _ (omega arith) (omega arith) best least best.range least.range))
