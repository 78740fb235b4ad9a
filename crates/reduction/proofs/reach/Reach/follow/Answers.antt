use Prim.Native.Nat.{◌<◌}
use native.Mathlib.Omega.{arith}
use lib.ListN.{get_or}
use Rattle.reduction.proofs.ReachFollowed.{following_begins, next_known, following_next, following_ends}
use Rattle.reduction.proofs.reach.Reach.follow.Goals as goal

pub loop-next-init : goal.loop-next-init
loop-next-init c = following_begins _ _ _ _ _ _ _ _ c.requires.state

pub overflow_cast-base : goal.overflow_cast-base
overflow_cast-base c =
    let first : get_or c.loop-next.self.order c.loop-next.next 0 < 512 = let l = c.loop-next in
    omega (arith, next_known _ _ _ _ _ l.self.facts l.self.counts l.self.order l.self.found l.next l.invariant c.loop-next-test.true, l.invariant.state.few) in
    omega (arith, first)

pub overflow_mul-base : goal.overflow_mul-base
overflow_mul-base c =
    let first : get_or c.loop-next.self.order c.loop-next.next 0 < 512 = let l = c.loop-next in
    omega (arith, next_known _ _ _ _ _ l.self.facts l.self.counts l.self.order l.self.found l.next l.invariant c.loop-next-test.true, l.invariant.state.few) in
    omega (arith, first)

pub reach_row-requires : goal.reach_row-requires
reach_row-requires c =
    let first : get_or c.loop-next.self.order c.loop-next.next 0 < 512 = let l = c.loop-next in
    omega (arith, next_known _ _ _ _ _ l.self.facts l.self.counts l.self.order l.self.found l.next l.invariant c.loop-next-test.true, l.invariant.state.few) in
    let in-loop = c in
    let s = in-loop in
    record {
      whole = record { few_variables = s.requires.few_variables; within = omega (arith, first) };
      state = in-loop.loop-next.invariant.state;
    }

pub loop-next-preserved : goal.loop-next-preserved
loop-next-preserved c =
    let l = c.loop-next in
    following_next _ _ _ _ _ l.self.facts l.self.counts l.self.order l.self.found l.next l.invariant _ _ _ _ c.loop-next-test.true
    c.reach_row.ensures

pub returns : goal.returns
returns c =
    let l = c.loop-next in
    following_ends _ _ _ _ _ l.self.facts l.self.counts l.self.order l.self.found l.next l.invariant c.loop-next-test.false
