use native.Mathlib.Omega.{arith}
use Rattle.marking.proofs.SetWhere.{at_end}
use Rattle.reduction.specs.ReachDense.{row_facts, Reaches}
use Rattle.reduction.proofs.ReachStates.{row_begins, row_goes_on}
use Rattle.reduction.proofs.reach.Reach.reach_row.Goals as goal

pub loop-v-init : goal.loop-v-init
loop-v-init c = row_begins _ _ _ _ _ _ _ _ c.requires.state

pub loop-v-preserved : goal.loop-v-preserved
loop-v-preserved c =
    let l = c.loop-v in
    row_goes_on _ _ c.args.row.now c.args.base l.v _ _ _ _ _ _ _ _ _ _ _ l.invariant c.reach_cell.ensures

pub returns : goal.returns
returns c =
    let l = c.loop-v in
    let a = c.args in
    let s = a.self.now in
    at_end (λ n. Reaches (row_facts a.row.now a.base n) a.rows.now a.task.now.actions s.facts s.order s.found l.self.facts l.self.counts l.self.order l.self.found)
    l.v a.task.now.variables (omega arith) c.loop-v-test.false l.invariant
