use Rattle.std.proofs.Common.{◌≡◌, refl, arith}
use Rattle.files.specs.Below.{sum_of}
use Rattle.files.proofs.LoopCounts.{sum_next}
use Rattle.marking.proofs.results.sum.Goals as goal

pub loop-i-init : goal.loop-i-init
unfolding sum_of
loop-i-init c = (refl, omega arith)

pub loop-i-preserved : goal.loop-i-preserved
loop-i-preserved c =
    let l = c.loop-i in (sum_next c.args.bytes.now l.i l.total _ l.invariant.0 refl, omega arith)

pub returns : goal.returns
returns c =
    let l = c.loop-i in
    let end : l.i ≡ c.args.count = omega arith in
    record { is = rw (← end) l.invariant.0; at_most = omega arith }
