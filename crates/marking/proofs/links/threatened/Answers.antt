use Rattle.std.proofs.Common.{◌≡◌, ◌*◌, ◌&&◌, arith, ap, not, ℕ, Bool}
use borrow.Author.Tests.{eq-eqb, ne_eqb}
use Rattle.marking.specs.Dense.{differ, threatens, threatens_anew}
use Rattle.marking.proofs.SetWhere.{set_guarded, set_skipped, turns_begin, turns_next}
use Rattle.marking.proofs.links.threatened.Goals as goal
use Rattle.marking.proofs.links.threatened.Goals.{then-kept-a, else-kept-a}

pub loop-a-init : goal.loop-a-init
unfolding threatens_anew
loop-a-init c = turns_begin _

pub loop-a-preserved : goal.loop-a-preserved
unfolding threatens_anew
loop-a-preserved c =
    let l = c.loop-a in
    let a = c.args in
    let d = a.task.now in
    let threatening : ℕ → ℕ → Bool = λ k j. threatens d.effects (64 * k) d.starts d.variables j in
    let anew : ℕ → ℕ → Bool = λ k j. differ a.kept.now a.kept_before.now k && threatening k j in
    elim c.if-kept-a.branch [
      | then-kept-a w ↦ rw w.threats-is
          (turns_next anew _ _ _ l.a l.invariant (set_guarded _ (threatening l.a) _ _ (ap not (ne_eqb _ _ w.if-kept-a.true)) w.threaten.ensures))
      | else-kept-a w ↦ rw w.threats-is
          (turns_next anew _ _ _ l.a l.invariant (set_skipped _ (threatening l.a) _ (ap not (eq-eqb _ _ w.if-kept-a.false))))
    ]

pub returns : goal.returns
returns c = let end : c.loop-a.a ≡ c.args.task.now.actions = omega arith in rw (← end) c.loop-a.invariant
