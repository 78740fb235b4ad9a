use Prim.Native.Nat.{ℕ, ◌+◌}
use mathlib.Core.Path.{◌≡◌, subst, sym}
use mathlib.Core.Bool.{Bool}
use native.Mathlib.Omega.{arith}
use Rattle.bits.specs.Sets.{WordOf}
use Rattle.bits.proofs.PutLoops.{word_begin, word_without, word_with}
use Rattle.bits.proofs.sets.word_of.Goals as goal
use Rattle.bits.proofs.sets.word_of.Goals.{then-test, else-test}

pub loop-k-init : goal.loop-k-init
loop-k-init g c = word_begin _

pub loop-k-preserved : goal.loop-k-preserved
loop-k-preserved g c =
    let passes = goal.F-post g c.args.test in
    elim c.if-test.branch [
      | then-test w ↦ subst (λ (n : ℕ). WordOf passes (c.loop-k.k + 1) n) (sym w.word-is) (word_with _ _ _ c.loop-k.invariant (omega (arith, c.requires.few, c.loop-k-test.true)) (subst (λ (b : Bool). passes c.loop-k.k b) w.if-test.true c.test.ensures))
      | else-test w ↦ subst (λ (n : ℕ). WordOf passes (c.loop-k.k + 1) n) (sym w.word-is) (word_without _ _ _ c.loop-k.invariant (subst (λ (b : Bool). passes c.loop-k.k b) w.if-test.false c.test.ensures))
    ]

pub returns : goal.returns
returns g c =
    let passes = goal.F-post g c.args.test in
    let all : c.loop-k.k ≡ c.args.count = omega (arith, c.loop-k-test.false) in
    subst (λ (n : ℕ). WordOf passes n c.loop-k.word) all c.loop-k.invariant
