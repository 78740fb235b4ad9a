use mathlib.Core.Path.{refl}
use native.Mathlib.Omega.{arith}
use Rattle.reduction.proofs.ReachBegun.{begun_begins, begun_few, begun_next, begun_ends}
use Rattle.reduction.proofs.reach.Reach.begin.Goals as goal

pub loop-a-init : goal.loop-a-init
loop-a-init c = (begun_begins _ _ _ _ _ _ c.requires.empty c.requires.none (omega arith) (omega arith), refl)

pub ask_row-count-requires : goal.ask_row-count-requires
ask_row-count-requires c =
    let l = c.loop-a in
    let few = c.requires.limits.few_actions in
    record {
      few_variables = c.requires.limits.few_variables;
      known = omega arith;
      room = omega (arith, c.requires.rows_room);
      empty = λ i. l.invariant.0.empty l.a i (omega arith) (omega arith);
    }

pub push_action-self-requires : goal.push_action-self-requires
push_action-self-requires c =
    let l = c.loop-a in
    omega (arith, c.requires.limits.few_actions, begun_few _ _ _ _ _ l.self.found l.a l.invariant.0)

pub loop-a-preserved : goal.loop-a-preserved
loop-a-preserved c =
    let l = c.loop-a in
    let few = c.requires.limits.few_actions in
    (begun_next _ _ l.rows l.self.counts l.self.order l.self.found l.a l.invariant.0 _ _ _ _ (omega arith) c.ask_row-count.ensures c.push_action-self.ensures, l.invariant.1)

pub returns-clause-begun : goal.returns-clause-begun
returns-clause-begun c =
    let l = c.loop-a in
    begun_ends _ _ _ _ _ _ l.a _ l.invariant.0 (omega arith)
