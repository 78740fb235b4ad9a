use mathlib.Core.Path.{refl}
use native.Mathlib.Omega.{arith}
use Rattle.files.proofs.BelowLaws.{bit_most}
use Rattle.files.proofs.Choosing.{chosen_none, chosen_next}
use Rattle.marking.specs.Dense.{is_marked}
use Rattle.reduction.proofs.named.originals.Goals as goal

pub loop-a-init : goal.loop-a-init
loop-a-init c = (chosen_none c.args.numbers.now (is_marked c.args.kept.now), omega arith)

pub loop-a-preserved : goal.loop-a-preserved
loop-a-preserved c =
    let l = c.loop-a in
    let kept = c.args.kept.now in
    let pushed = c.push_action-count.ensures in (
      chosen_next (is_marked kept) (is_marked kept l.a) l.numbers _ l.a l.count _ (omega arith) l.invariant.0 refl pushed.numbers pushed.counted,
      omega (arith, pushed.counted, bit_most (is_marked kept l.a)),
    )
