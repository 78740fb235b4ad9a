use Rattle.std.proofs.Common.{◌≡◌, refl, arith}
use Rattle.files.proofs.LoopCounts.{count_next}
use Rattle.marking.proofs.Bits.{from_test, test_most}
use Rattle.marking.proofs.cells.count_where.Goals as goal

pub loop-i-init : goal.loop-i-init
loop-i-init g c = (λ p h. refl, omega arith)

pub loop-i-preserved : goal.loop-i-preserved
loop-i-preserved g c =
    let l = c.loop-i in (
      λ p h. count_next p l.i l.passed _ (l.invariant.0 p h) (from_test c.from-passed.ensures (h l.i _ (omega arith) c.test.ensures)),
      omega (arith, test_most _ c.from-passed.ensures),
    )

pub returns : goal.returns
returns g c =
    let l = c.loop-i in
    let end : l.i ≡ c.args.count = omega arith in
    record { is = λ p h. rw (← end) (l.invariant.0 p h); at_most = omega arith }
