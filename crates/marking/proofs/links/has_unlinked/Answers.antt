use Rattle.std.proofs.Common.{◌≡◌, refl, sym, ◌+◌, ◌*◌, arith, add-one}
use borrow.Author.Tests.{eq-eqb, ne_eqb}
use Rattle.files.proofs.BelowLaws.{any_below_intro}
use Rattle.marking.specs.Dense.{is_marked, tracked_at}
use Rattle.marking.proofs.links.has_unlinked.Goals as goal

pub loop-d-init : goal.loop-d-init
loop-d-init c = refl

pub returns-then-unlinked-v-eq1 : goal.returns-then-unlinked-v-eq1
unfolding tracked_at
returns-then-unlinked-v-eq1 c =
    let l = c.loop-d in
    let a = c.args in
    sym (any_below_intro 32 (λ d. is_marked a.unlinked.now (32 * a.v + d)) l.d c.loop-d-test.true (eq-eqb _ 1 c.if-unlinked-v-eq1.true))

pub loop-d-preserved : goal.loop-d-preserved
loop-d-preserved c =
    let l = c.loop-d in
    rw (add-one l.d, ne_eqb _ 1 c.if-unlinked-v-eq1.false) l.invariant

pub returns : goal.returns
unfolding tracked_at
returns c = let end : c.loop-d.d ≡ 32 = omega arith in sym (rw end at c.loop-d.invariant)
