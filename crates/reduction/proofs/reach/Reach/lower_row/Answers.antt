use Prim.Native.Nat.{◌*◌, ◌<◌}
use mathlib.Core.Path.{ap, ◌∙◌}
use native.Mathlib.Omega.{arith}
use lib.ListN.{get_or}
use Rattle.bits.specs.Sets.{FirstFrom, in_words}
use Rattle.bits.specs.declared.sets.Numbers.{Numbers}
use Rattle.reduction.proofs.ReachLists.{listing_room, lowering_next, lowering_ends}
use Rattle.reduction.proofs.reach.Reach.lower_row.Goals as goal

pub lower-requires : goal.lower-requires
lower-requires c =
    let l = c.loop-a in
    let a = c.in-Some.a in
    let s = c.in-Some.ensures.steps in
    let few = c.requires.few in
    let below : a < c.args.actions = omega (arith, s.1, l.invariant.3) in
    let first : FirstFrom (in_words c.args.rows.now (8 * c.args.place)) c.args.actions l.a-iterator.from a = rw (l.invariant.2, l.invariant.3) at s.0 in
    let some : 0 < get_or l.self.counts a 0 = omega (arith, c.requires.some a below (first.there below), l.invariant.0.after a first.first) in
    record {
      known = omega arith;
      some = some;
      few = omega (arith, listing_room _ _ _ _ _ l.invariant.0.listing below some);
      counts_room = l.invariant.0.counts_room;
      order_room = l.invariant.0.order_room;
    }

pub loop-a-preserved : goal.loop-a-preserved
loop-a-preserved c =
    let l = c.loop-a in
    let a = c.in-Some.a in
    let s = c.in-Some.ensures.steps in
    let few = c.requires.few in
    let below : a < c.args.actions = omega (arith, s.1, l.invariant.3) in
    let first : FirstFrom (in_words c.args.rows.now (8 * c.args.place)) c.args.actions l.a-iterator.from a = rw (l.invariant.2, l.invariant.3) at s.0 in
    let some : 0 < get_or l.self.counts a 0 = omega (arith, c.requires.some a below (first.there below), l.invariant.0.after a first.first) in (
      rw (ap (λ (n : Numbers). n.from) s.2)
          (lowering_next _ _ _ _ _ _ _ _ _ _ _ _ _ l.invariant.0 first below few some c.lower.ensures.lowered),
      c.lower.ensures.facts ∙ l.invariant.1,
      ap (λ (n : Numbers). in_words n.words.now n.at) s.2 ∙ l.invariant.2,
      ap (λ (n : Numbers). n.limit) s.2 ∙ l.invariant.3,
    )

pub returns : goal.returns
returns c =
    let l = c.loop-a in
    let s = c.in-None.ensures.steps in
    let last : FirstFrom (in_words c.args.rows.now (8 * c.args.place)) c.args.actions l.a-iterator.from c.args.actions = rw (l.invariant.2, l.invariant.3) at s.0 in
    record { lowered = lowering_ends _ _ _ _ _ _ _ _ _ l.invariant.0 last; facts = l.invariant.1 }
