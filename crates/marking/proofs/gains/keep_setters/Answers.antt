use Rattle.std.proofs.Common.{◌≡◌, ℕ, ◌+◌, ◌*◌, Bool, arith, eqb, get_or}
use Rattle.marking.specs.Dense.{sets}
use Rattle.marking.proofs.SetWhere.{places_begin, places_next}
use Rattle.marking.proofs.gains.keep_setters.Goals as goal

pub loop-a-init : goal.loop-a-init
unfolding sets
loop-a-init c = places_begin _ _

pub loop-a-preserved : goal.loop-a-preserved
unfolding sets
loop-a-preserved c =
    let l = c.loop-a in
    let a = c.args in
    let setter : ℕ → Bool = λ b. eqb (get_or a.task.now.effects (64 * b + a.v) 0) a.value in
    places_next setter _ _ l.a _ l.invariant (omega arith) c.raised.ensures

pub returns : goal.returns
returns c = let end : c.loop-a.a ≡ c.args.task.now.actions = omega arith in rw (← end) c.loop-a.invariant
