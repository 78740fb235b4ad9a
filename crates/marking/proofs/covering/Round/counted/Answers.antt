use Rattle.std.proofs.Common.{◌≡◌, ◌∙◌, refl, ℕ, Bool, arith}
use lib.ListN.{length-set}
use Rattle.files.specs.Below.{bit}
use Rattle.files.proofs.Filling.{filled_before}
use Rattle.marking.specs.Dense.{covered_at, counted_at}
use Rattle.marking.specs.Levels.{level_number}
use Rattle.marking.proofs.Bits.{from_test}
use Rattle.marking.proofs.covering.Round.counted.Goals as goal

pub loop-a-init : goal.loop-a-init
loop-a-init c = (refl, λ w h. absurd (omega arith))

pub loop-a-preserved : goal.loop-a-preserved
loop-a-preserved c =
    let l = c.loop-a in
    let r = c.args.self.now in
    let d = r.task.now in
    let test : ℕ → Bool =
    λ w. counted_at (level_number r.level) r.kept.now r.counted_before.now (covered_at r.kept.now r.could_cover.now d.effects r.tracked.now d.variables d.actions w) w in (
      length-set l.marks l.a _ ∙ l.invariant.0,
      filled_before l.marks l.a _ (λ w x. x ≡ bit (test w)) (omega arith) l.invariant.1 (from_test c.from.ensures c.is_counted.ensures),
    )

pub returns : goal.returns
returns c = λ w h. c.loop-a.invariant.1 w (omega arith)
