-- The state's block is looked through anew, the others are as they were.
use Rattle.std.proofs.Common.{arith, refl}
use Rattle.distances.proofs.Blocks.{known_settled}
use Rattle.distances.proofs.Picking.{pick_to}
use Rattle.distances.proofs.selection.Selection.settle.Goals as goal

pub returns : goal.returns
returns c =
    record {
      settled_is = refl;
      selecting =
          record {
            few = c.requires.selecting.few;
            known =
                known_settled c.args.entries.now c.args.self.now.settled _ c.args.self.now.least c.args.state c.pick.result (omega arith) c.requires.selecting.known
                (pick_to _ _ _ _ _ _ _ (omega (arith, c.min-end.ensures)) (λ h. omega (arith, c.min-end.ensures)) c.pick.ensures);
          };
    }
