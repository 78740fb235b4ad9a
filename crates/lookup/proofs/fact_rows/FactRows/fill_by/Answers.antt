use mathlib.Core.Path.{refl}
use native.Mathlib.Omega.{arith}
use Rattle.files.proofs.LoopCounts.{sum_next, sum_within}
use Rattle.lookup.proofs.FactRowLoops.{sum_none, rows_begin, rows_next}
use Rattle.lookup.proofs.fact_rows.FactRows.fill_by.Goals as goal

pub loop-v-init : goal.loop-v-init
loop-v-init c = record { rows = rows_begin _ _ _ _ _; fact_is = sum_none _ }

pub put_variable-requires : goal.put_variable-requires
put_variable-requires c =
    let l = c.loop-v in
    record {
      within = omega (arith, sum_within c.args.task.now.sizes l.v c.args.task.now.variables l.fact c.loop-v-test.true l.invariant.fact_is, c.requires.few.facts_few);
      variable = omega (arith, c.loop-v-test.true, c.requires.few.variables_few);
      actions_few = c.requires.actions_few;
    }

pub overflow_add-fact : goal.overflow_add-fact
overflow_add-fact c =
    let l = c.loop-v in
    omega (arith, sum_within c.args.task.now.sizes l.v c.args.task.now.variables l.fact c.loop-v-test.true l.invariant.fact_is, c.requires.few.facts_few)

pub loop-v-preserved : goal.loop-v-preserved
loop-v-preserved c =
    let l = c.loop-v in
    record {
      rows = rows_next _ _ _ _ _ _ _ _ _ c.requires.actions_few l.invariant.fact_is refl l.invariant.rows c.put_variable.ensures;
      fact_is = sum_next _ _ _ _ l.invariant.fact_is refl;
    }
