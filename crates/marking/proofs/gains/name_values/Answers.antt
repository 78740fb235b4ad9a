use Rattle.std.proofs.Common.{◌≡◌, ◌+◌, ◌*◌, ◌&&◌, arith, eqb, ltb}
use Rattle.marking.proofs.SetWhere.{set_alike, set_place, turns_begin, turns_next}
use Rattle.marking.proofs.Places.{place_values}
use Rattle.marking.proofs.gains.name_values.Goals as goal

pub loop-d-init : goal.loop-d-init
loop-d-init c = turns_begin _

pub loop-d-preserved : goal.loop-d-preserved
loop-d-preserved c =
    let l = c.loop-d in
    let a = c.args in
    turns_next (λ k j. eqb j (32 * a.v + k) && ltb k a.size) _ _ _ l.d l.invariant (set_place _ _ _ _ (omega (arith, l.invariant.same)) c.raised.ensures)

pub returns : goal.returns
returns c =
    let a = c.args in
    let end : c.loop-d.d ≡ 32 = omega arith in
    set_alike _ _ _ _ (place_values a.v a.size) (rw end at c.loop-d.invariant)
