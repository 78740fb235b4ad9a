use mathlib.Core.Path.{refl}
use native.Mathlib.Omega.{arith}
use Rattle.std.proofs.Common.{rules}
use Rattle.files.proofs.LoopCounts.{sum_next, sum_within}
use Rattle.lookup.proofs.FactRowLoops.{sum_none, fact_inside, all_begin, all_next, all_end}
use Rattle.lookup.proofs.fact_rows.FactRows.in_all.Goals as goal

pub loop-v-init : goal.loop-v-init
loop-v-init c = record { all = all_begin c.args.task.now.sizes c.args.values.now c.args.self.now.words; row_is = sum_none _; eight = refl }

pub overflow_add-row : goal.overflow_add-row
overflow_add-row c = omega (arith, fact_inside _ _ _ _ _ _ _ c.requires c.loop-v-test.true c.loop-v.invariant.row_is refl)

pub overflow_mul-row : goal.overflow_mul-row
overflow_mul-row c = omega (arith, fact_inside _ _ _ _ _ _ _ c.requires c.loop-v-test.true c.loop-v.invariant.row_is refl)

pub keep-requires : goal.keep-requires
keep-requires c =
    record {
      room = omega (arith, fact_inside _ _ _ _ _ _ _ c.requires c.loop-v-test.true c.loop-v.invariant.row_is refl, c.requires.few.room);
      words_room = omega arith;
    }

pub overflow_add-row-in-loop-v : goal.overflow_add-row-in-loop-v
overflow_add-row-in-loop-v c =
    let l = c.loop-v in
    omega (arith, sum_within c.args.task.now.sizes l.v c.args.task.now.variables l.row c.loop-v-test.true l.invariant.row_is, c.requires.few.facts_few)

pub loop-v-preserved : goal.loop-v-preserved
loop-v-preserved c =
    let l = c.loop-v in
    record {
      all = all_next _ _ _ _ _ _ _ _ l.invariant.row_is refl l.invariant.all c.keep.ensures;
      row_is = sum_next _ _ _ _ l.invariant.row_is refl;
      eight = search rules;
    }

pub returns : goal.returns
returns c = record { all = all_end _ _ _ _ _ _ (omega arith) c.loop-v-test.false c.loop-v.invariant.all; eight = c.loop-v.invariant.eight }
