use native.Mathlib.Omega.{arith}
use Rattle.std.proofs.Common.{rules}
use Rattle.lookup.proofs.MoveLoops.{moves_next}
use Rattle.lookup.proofs.moves.Moves.fill.Goals as goal

pub loop-a-preserved : goal.loop-a-preserved
loop-a-preserved c =
    let l = c.loop-a in
    record {
      long = search rules;
      filled = λ sizes weight. moves_next _ _ _ _ _ _ _ (omega (arith, c.requires.actions_few)) (l.invariant.filled sizes weight) (c.of.ensures sizes weight);
    }

pub returns : goal.returns
returns c sizes weight a h = c.loop-a.invariant.filled sizes weight a (omega arith)
