use Rattle.std.proofs.Common.{◌≡◌, ℕ, ◌+◌, ◌*◌, ap, ◌∙◌, Bool, cond, arith, get_or}
use Rattle.marking.specs.Dense.{other_than, threatens}
use Rattle.marking.proofs.SetWhere.{places_begin, places_next}
use Rattle.marking.proofs.links.threaten.Goals as goal

pub loop-v-init : goal.loop-v-init
unfolding threatens
loop-v-init c = places_begin _ _

pub loop-v-preserved : goal.loop-v-preserved
unfolding threatens
loop-v-preserved c =
    let l = c.loop-v in
    let d = c.args.task.now in
    let other : ℕ → Bool = λ w. other_than (get_or d.effects (64 * c.args.action + w) 0) (get_or d.starts w 0) in
    places_next other _ _ l.v _ l.invariant (omega arith) (c.raised.ensures ∙ ap (λ (b : Bool). cond b 1 (get_or l.threats l.v 0)) c.other_than-other.ensures)

pub returns : goal.returns
returns c = let end : c.loop-v.v ≡ c.args.task.now.variables = omega arith in rw (← end) c.loop-v.invariant
