use Rattle.std.proofs.Common.{◌≡◌, ◌*◌, ◌&&◌, arith, ap, not, ℕ, Bool}
use borrow.Author.Tests.{eq-eqb, ne_eqb}
use Rattle.marking.specs.Dense.{differ, row_names, names_anew}
use Rattle.marking.proofs.SetWhere.{set_guarded, set_skipped, turns_begin, turns_next}
use Rattle.marking.proofs.gains.gain_facts.Goals as goal
use Rattle.marking.proofs.gains.gain_facts.Goals.{then-counted-a, else-counted-a}

pub loop-a-init : goal.loop-a-init
unfolding names_anew
loop-a-init c = turns_begin _

pub loop-a-preserved : goal.loop-a-preserved
unfolding names_anew
loop-a-preserved c =
    let l = c.loop-a in
    let a = c.args in
    let d = a.task.now in
    let named : ℕ → ℕ → Bool = λ k j. row_names a.whole d.conditions (64 * k) d.sizes d.variables j in
    let anew : ℕ → ℕ → Bool = λ k j. differ a.counted.now a.counted_before.now k && named k j in
    elim c.if-counted-a.branch [
      | then-counted-a w ↦ rw w.facts-is
          (turns_next anew _ _ _ l.a l.invariant (set_guarded _ (named l.a) _ _ (ap not (ne_eqb _ _ w.if-counted-a.true)) w.name_row.ensures))
      | else-counted-a w ↦ rw w.facts-is
          (turns_next anew _ _ _ l.a l.invariant (set_skipped _ (named l.a) _ (ap not (eq-eqb _ _ w.if-counted-a.false))))
    ]

pub returns : goal.returns
returns c = let end : c.loop-a.a ≡ c.args.task.now.actions = omega arith in rw (← end) c.loop-a.invariant
