use Prim.Native.Nat.{◌*◌}
use mathlib.Core.Path.{◌≡◌, refl, sym, ◌∙◌}
use mathlib.Core.Bool.{true}
use native.Mathlib.Omega.{arith}
use lib.ListN.{get_or}
use borrow.Author.Tests.{eq-eqb, ne_eqb}
use Rattle.files.specs.Below.{all_below}
use Rattle.marking.proofs.SetWhere.{at_end}
use Rattle.reduction.specs.Composed.{row_unmoved, unmoved_at}
use Rattle.reduction.proofs.OriginsHeld.{all_fails}
use Rattle.reduction.proofs.origins.unmoved.Goals as goal

pub returns-then-later-task : goal.returns-then-later-task
unfolding unmoved_at
returns-then-later-task c = rw (ne_eqb _ _ c.if-later-task.true) refl

pub returns-then-later-task-2 : goal.returns-then-later-task-2
unfolding unmoved_at
returns-then-later-task-2 c = rw (eq-eqb _ _ c.if-later-task.false, ne_eqb _ _ c.if-later-task-2.true) refl

pub returns-then-not-row_unmoved : goal.returns-then-not-row_unmoved
unfolding unmoved_at
returns-then-not-row_unmoved c =
    let l = c.loop-v in
    let a = c.args in
    let fails = all_fails a.task.now.variables (λ w. row_unmoved a.later.now.values (32 * w) (get_or a.task.now.sizes w 0)) l.v c.loop-v-test.true (sym c.row_unmoved.ensures ∙ c.if-not-row_unmoved.true) in
    rw (eq-eqb _ _ c.if-later-task.false, eq-eqb _ _ c.if-later-task-2.false, fails) refl

pub returns : goal.returns
unfolding unmoved_at
returns c =
    let l = c.loop-v in
    let a = c.args in
    let all = at_end (λ n. all_below n (λ w. row_unmoved a.later.now.values (32 * w) (get_or a.task.now.sizes w 0)) ≡ true) l.v a.task.now.variables (omega arith) c.loop-v-test.false l.invariant in
    rw (eq-eqb _ _ c.if-later-task.false, eq-eqb _ _ c.if-later-task-2.false, all) refl
