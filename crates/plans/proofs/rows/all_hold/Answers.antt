-- All conditions hold where each cell is met.
use mathlib.Core.Path.{◌≡◌, sym, ap, ap₂, ◌∙◌}
use mathlib.Core.Bool.{◌&&◌}
use native.Mathlib.Omega.{arith}
use lib.ListN.{get_or}
use Prim.Native.Nat.{ℕ, suc}
use Rattle.files.specs.Below.{all_below}
use Rattle.plans.specs.Tally.{list_state, meets_cell}
use Rattle.plans.proofs.RowStates.{meets_at, hold_below}
use Rattle.plans.proofs.rows.all_hold.Goals as goal

pub loop-v-preserved : goal.loop-v-preserved
unfolding list_state
loop-v-preserved c =
    let cell = meets_at c.args.row 0 (list_state c.args.state) in
    let v = c.loop-v.v in
    let here : c.meets-held.result ≡ cell v =
    c.meets-held.ensures ∙ ap (λ (n : ℕ). meets_cell (get_or c.args.row n 0) (get_or c.args.state v 0)) (omega arith) in
    ap₂ ◌&&◌ here c.loop-v.invariant ∙ ap (λ (n : ℕ). all_below n cell) {x = suc v} (omega arith)

pub returns : goal.returns
returns c =
    let cell = meets_at c.args.row 0 (list_state c.args.state) in
    let end : c.loop-v.v ≡ 64 = omega arith in
    c.loop-v.invariant ∙ ap (λ (n : ℕ). all_below n cell) end ∙ sym (hold_below c.args.row 0 (list_state c.args.state) 64)
