use native.Mathlib.Omega.{arith}
use Rattle.files.proofs.BelowLaws.{bit_most}
use Rattle.files.proofs.Choosing.{chosen_none, chosen_next}
use Rattle.reduction.specs.Dense.{keeps_at}
use Rattle.reduction.proofs.named.kept_variables.Goals as goal

pub loop-v-init : goal.loop-v-init
loop-v-init c =
    let a = c.args in
    (chosen_none a.numbers.now (keeps_at a.named.now a.changed.now a.starts.now), omega arith)

pub loop-v-preserved : goal.loop-v-preserved
loop-v-preserved c =
    let l = c.loop-v in
    let a = c.args in
    let pushed = c.push-count.ensures in (
      chosen_next (keeps_at a.named.now a.changed.now a.starts.now) c.keeps.result l.numbers _ l.v l.count _ (omega arith) l.invariant.0 c.keeps.ensures pushed.numbers pushed.counted,
      omega (arith, pushed.counted, bit_most c.keeps.result),
    )
