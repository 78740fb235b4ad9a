use Prim.Native.Nat.{◌+◌}
use mathlib.Core.Path.{◌≡◌, sym}
use mathlib.Core.Bool.{true}
use native.Mathlib.Omega.{arith}
use lib.Dec.{eqb}
use lib.ListN.{get_or}
use borrow.Author.Tests.{ne_eqb}
use Rattle.files.specs.Below.{all_below}
use Rattle.marking.proofs.SetWhere.{at_end}
use Rattle.reduction.specs.Composed.{row_unmoved}
use Rattle.reduction.proofs.OriginsHeld.{all_fails}
use Rattle.reduction.proofs.origins.row_unmoved.Goals as goal

pub returns-then-values-base : goal.returns-then-values-base
unfolding row_unmoved
returns-then-values-base c =
    let l = c.loop-d in
    let a = c.args in
    sym (all_fails a.size (λ k. eqb (get_or a.values.now (a.base + k) 0) k) l.d c.loop-d-test.true (ne_eqb _ _ c.if-values-base.true))

pub returns : goal.returns
unfolding row_unmoved
returns c =
    let l = c.loop-d in
    let a = c.args in
    sym (at_end (λ n. all_below n (λ k. eqb (get_or a.values.now (a.base + k) 0) k) ≡ true) l.d a.size (omega arith) c.loop-d-test.false l.invariant)
