use Rattle.std.proofs.Common.{◌≡◌, ◌∙◌, refl, arith}
use lib.ListN.{length-set}
use Rattle.files.specs.Below.{bit}
use Rattle.files.proofs.Filling.{filled_before, filled_after, zeros_entry}
use Rattle.marking.specs.Dense.{unlinked_at}
use Rattle.marking.specs.Levels.{level_number}
use Rattle.marking.proofs.Bits.{from_test}
use Rattle.marking.proofs.links.unlinked.Goals as goal

pub loop-i-init : goal.loop-i-init
loop-i-init c = (refl, λ k h. absurd (omega arith), λ k h. zeros_entry 2048 k)

pub loop-i-preserved : goal.loop-i-preserved
loop-i-preserved c =
    let l = c.loop-i in
    let a = c.args in (
      length-set l.marks l.i _ ∙ l.invariant.0,
      filled_before l.marks l.i _ (λ k x. x ≡ bit (unlinked_at (level_number a.level) a.facts.now a.task.now.starts a.threats.now k)) (omega arith) l.invariant.1 (from_test c.from.ensures c.is_unlinked.ensures),
      filled_after l.marks l.i _ (λ k x. x ≡ 0) l.invariant.2,
    )

pub returns : goal.returns
returns c =
    let l = c.loop-i in record { told = λ k h. l.invariant.1 k (omega arith); zero = λ k h. l.invariant.2 k (omega arith) }
