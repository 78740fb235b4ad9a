use Rattle.std.proofs.Common.{◌≡◌, ◌∙◌, refl, arith}
use lib.ListN.{length-set}
use Rattle.files.specs.Below.{bit}
use Rattle.files.proofs.Filling.{filled_before}
use Rattle.marking.specs.Dense.{tracked_at}
use Rattle.marking.proofs.Bits.{from_test}
use Rattle.marking.proofs.links.tracked.Goals as goal

pub loop-v-init : goal.loop-v-init
loop-v-init c = (refl, λ w h. absurd (omega arith))

pub loop-v-preserved : goal.loop-v-preserved
loop-v-preserved c =
    let l = c.loop-v in
    let a = c.args in (
      length-set l.marks l.v _ ∙ l.invariant.0,
      filled_before l.marks l.v _ (λ w x. x ≡ bit (tracked_at a.unlinked.now w)) (omega arith) l.invariant.1 (from_test c.from.ensures c.has_unlinked.ensures),
    )

pub returns : goal.returns
returns c = λ w h. c.loop-v.invariant.1 w (omega arith)
