use mathlib.Core.Path.{◌≡◌, sym, ap}
use mathlib.Core.Bool.{false, not, ◌&&◌}
use native.Mathlib.Omega.{arith}
use lib.Dec.{eqb}
use borrow.Author.Tests.{eq-eqb, ne_eqb}
use Rattle.files.specs.Below.{any_below}
use Rattle.files.proofs.BelowLaws.{any_below_intro}
use Rattle.files.proofs.Logic.{and_join}
use Rattle.marking.proofs.SetWhere.{at_end}
use Rattle.reduction.specs.Dense.{named_value, other_named}
use Rattle.reduction.proofs.named.other_named.Goals as goal

pub returns-then-d-start : goal.returns-then-d-start
unfolding other_named
returns-then-d-start c =
    let l = c.loop-d in
    let s = c.args in
    sym (any_below_intro 32 (λ k. named_value s.named.now s.v k && not (eqb k s.start)) l.d c.loop-d-test.true (and_join (eq-eqb _ 1 c.if-named-v-eq1.true) (ap not (ne_eqb l.d s.start c.if-d-start.true))))

pub returns : goal.returns
unfolding other_named
returns c =
    let l = c.loop-d in
    let s = c.args in
    sym (at_end (λ n. any_below n (λ k. named_value s.named.now s.v k && not (eqb k s.start)) ≡ false) l.d 32 (omega arith) c.loop-d-test.false l.invariant)
