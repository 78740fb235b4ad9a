use Prim.Native.Nat.{◌+◌, ◌*◌}
use mathlib.Core.Bool.{not}
use native.Mathlib.Omega.{arith}
use lib.Dec.{eqb}
use lib.ListN.{get_or}
use Rattle.files.proofs.BelowLaws.{bit_most}
use Rattle.marking.proofs.SetWhere.{at_end}
use Rattle.reduction.specs.ReachDense.{row_facts, Asking}
use Rattle.reduction.proofs.ReachRows.{asking_begins, asking_next, asked_none, asked_next}
use Rattle.reduction.proofs.reach.ask_row.Goals as goal

pub loop-v-init : goal.loop-v-init
loop-v-init c =
    (asking_begins _ _ _ _, asked_none c.args.rows.now c.args.a c.requires.empty, omega arith)

pub overflow_add-count : goal.overflow_add-count
overflow_add-count c =
    let l = c.loop-v in
    let a = c.args in
    omega (arith, c.ask_cell-count.ensures.one, bit_most (not (eqb (get_or a.task.now.conditions (64 * a.a + l.v) 0) 255)))

pub loop-v-preserved : goal.loop-v-preserved
loop-v-preserved c =
    let l = c.loop-v in
    let a = c.args in
    let new = c.ask_cell-count.ensures in (
      asking_next a.task.now.conditions (64 * a.a) a.a l.v a.rows.now l.rows _ l.invariant.0 new.asking,
      asked_next a.task.now.conditions (64 * a.a) a.a c.requires.known l.v a.rows.now l.rows _ c.requires.empty l.invariant.0 new.asking (omega arith) l.count _ l.invariant.1 new.one,
      omega (arith, new.one, bit_most (not (eqb (get_or a.task.now.conditions (64 * a.a + l.v) 0) 255))),
    )

pub returns : goal.returns
returns c =
    let l = c.loop-v in
    let a = c.args in
    record {
      asking = at_end (λ n. Asking (row_facts a.task.now.conditions (64 * a.a) n) a.a a.rows.now l.rows) l.v a.task.now.variables (omega arith) c.loop-v-test.false l.invariant.0;
      count = l.invariant.1;
    }
