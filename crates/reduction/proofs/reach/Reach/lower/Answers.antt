-- The count was some number more than 0: what is left is the number before it.
use Prim.Native.Nat.{◌-◌}
use mathlib.Core.Path.{refl}
use native.Mathlib.Omega.{arith}
use lib.ListN.{get_or}
use Rattle.reduction.proofs.reach.Reach.lower.Goals as goal

pub returns-clause-lowered : goal.returns-clause-lowered
returns-clause-lowered c =
    record {
      left = get_or c.args.self.now.counts c.args.a 0 - 1;
      less = omega (arith, c.requires.some);
      lowered = refl;
      pushed = c.push_action-self.ensures;
    }
