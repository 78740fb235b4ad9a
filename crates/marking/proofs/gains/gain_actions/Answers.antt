use Rattle.std.proofs.Common.{◌≡◌, ◌*◌, ◌/◌, ◌%◌, ◌&&◌, arith, ap, not, ℕ, Bool}
use borrow.Author.Tests.{eq-eqb, ne_eqb}
use Rattle.marking.specs.Dense.{differ, sets, achieves}
use Rattle.marking.proofs.SetWhere.{set_guarded, set_skipped, turns_begin, turns_next}
use Rattle.marking.proofs.gains.gain_actions.Goals as goal
use Rattle.marking.proofs.gains.gain_actions.Goals.{then-unlinked-i, else-unlinked-i}

pub loop-i-init : goal.loop-i-init
unfolding achieves
loop-i-init c = turns_begin _

pub loop-i-preserved : goal.loop-i-preserved
unfolding achieves
loop-i-preserved c =
    let l = c.loop-i in
    let a = c.args in
    let d = a.task.now in
    let setters : ℕ → ℕ → Bool = λ k j. sets d.effects (k / 32) (k % 32) d.actions j in
    let anew : ℕ → ℕ → Bool = λ k j. differ a.unlinked.now a.unlinked_before.now k && setters k j in
    elim c.if-unlinked-i.branch [
      | then-unlinked-i w ↦ rw w.kept-is
          (turns_next anew _ _ _ l.i l.invariant (set_guarded _ (setters l.i) _ _ (ap not (ne_eqb _ _ w.if-unlinked-i.true)) w.keep_setters.ensures))
      | else-unlinked-i w ↦ rw w.kept-is
          (turns_next anew _ _ _ l.i l.invariant (set_skipped _ (setters l.i) _ (ap not (eq-eqb _ _ w.if-unlinked-i.false))))
    ]

pub returns : goal.returns
returns c = let end : c.loop-i.i ≡ 32 * c.args.task.now.variables = omega arith in rw (← end) c.loop-i.invariant
