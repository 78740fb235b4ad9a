-- The cells before `count` are those of the row, and no pair stands behind them.
use Prim.Native.Nat.{ℕ, ◌+◌, ◌<◌}
use mathlib.Core.Path.{◌≡◌, refl, ap, ◌∙◌}
use native.Mathlib.Omega.{arith}
use lib.ListN.{length-set, get_or, get_or-replicate}
use Rattle.files.proofs.Filling.{filled_before, filled_after}
use Rattle.files.proofs.RowValues.{row_pairs_copied}
use Rattle.plans.proofs.rows.row_at.Goals as goal

pub loop-v-init : goal.loop-v-init
loop-v-init c = (λ w h. absurd (omega arith), λ w a b. get_or-replicate {A = ℕ} 64 w 255 0 b, refl)

pub loop-v-preserved : goal.loop-v-preserved
loop-v-preserved c =
    let l = c.loop-v in
    let a = c.args in (
      filled_before l.row l.v _ (λ w x. x ≡ get_or a.rows.now (a.base + w) 0) (omega arith) l.invariant.0 refl,
      filled_after l.row l.v _ (λ w x. w < 64 → x ≡ 255) l.invariant.1,
      length-set l.row l.v _ ∙ l.invariant.2,
    )

pub returns : goal.returns
returns c =
    let l = c.loop-v in
    let a = c.args in
    let at : (w : ℕ) → get_or l.row (0 + w) 0 ≡ get_or l.row w 0 = λ w. ap (λ (n : ℕ). get_or l.row n 0) (omega arith) in
    row_pairs_copied l.row a.rows.now a.base 0 0 a.count 64 (omega arith)
    (λ w x y. at w ∙ l.invariant.0 w (omega arith))
    (λ w x y. at w ∙ l.invariant.1 w (omega arith) (omega arith))
