use Prim.Native.Nat.{ℕ, ◌*◌}
use mathlib.Core.Path.{ap₂, ◌∙◌}
use mathlib.Core.Bool.{cond}
use borrow.Author.Rules.{rules}
use native.Mathlib.Omega.{arith}
use Rattle.files.proofs.BelowLaws.{bit_most}
use Rattle.files.proofs.Filling.{below_next}
use Rattle.files.proofs.LoopCounts.{count_next, row_next}
use Rattle.reduction.specs.Dense.{named_value, new_value_at}
use Rattle.reduction.proofs.renumber.number_values.Goals as goal

pub loop-d-preserved : goal.loop-d-preserved
unfolding new_value_at
loop-d-preserved c =
    let l = c.loop-d in
    let a = c.args in
    let test = named_value a.named.now a.v in (
      row_next (new_value_at a.named.now a.v) l.values (32 * a.v) l.d _ (omega arith) l.invariant.0
          (c.number.ensures ∙ ap₂ (λ (x y : ℕ). cond (test l.d) x y) l.invariant.2 c.named_in-rest.ensures.is),
      below_next a.values.now l.values (32 * a.v) l.d _ l.invariant.1,
      count_next test l.d l.rank _ l.invariant.2 (search rules),
      omega (arith, bit_most (test l.d)),
    )
