use Rattle.std.proofs.Common.{◌-◌, refl, ap, arith, length}
use mathlib.Core.Path.{◌∙◌}
use Rattle.files.proofs.Countdown.{more_from}
use Rattle.files.proofs.RowLaws.{row_pairs_none, row_pairs_next, row_pairs_skip}
use Rattle.files.proofs.WritingTasks.{placed_pairs_none, placed_pairs_next, placed_pairs_skip}
use Rattle.files.proofs.write.put_pairs.Goals as goal
use Rattle.files.proofs.write.put_pairs.Goals.{then-value, else-value}

pub put_pair-requires : goal.put_pair-requires
put_pair-requires c =
    let more = more_from c.loop-v.v c.args.count c.loop-v-test.true in
    omega (arith, c.loop-v.invariant.1, c.requires.room, ap length (row_pairs_next c.args.rows.now c.args.base c.loop-v.v _ _ more refl c.if-value.true))

pub loop-v-preserved : goal.loop-v-preserved
loop-v-preserved c =
    let v = c.loop-v.v in
    let more = more_from v c.args.count c.loop-v-test.true in
    let stood = c.loop-v.invariant in
    elim c.if-value.branch [
      | then-value w ↦ (
        placed_pairs_next _ _ _ _ _ _ _ c.loop-v-test.true refl c.if-value.buffer c.if-value.place (w.buffer-is ∙ w.put_pair.ensures) w.place-is w.if-value.true ∙ stood.0,
        omega (arith, stood.1, w.place-is, ap length (row_pairs_next c.args.rows.now c.args.base v _ _ more refl w.if-value.true)),
      )
      | else-value w ↦ (
        placed_pairs_skip _ _ _ _ _ _ _ c.loop-v-test.true refl c.if-value.buffer c.if-value.place w.buffer-is w.place-is w.if-value.false ∙ stood.0,
        omega (arith, stood.1, w.place-is, ap length (row_pairs_skip c.args.rows.now c.args.base v _ _ more refl w.if-value.false)),
      )
    ]

pub returns : goal.returns
returns c =
    let stood = c.loop-v.invariant in
    record {
      written = placed_pairs_none _ _ _ _ _ _ c.loop-v-test.false ∙ stood.0;
      ends = omega (arith, stood.1, ap length (row_pairs_none c.args.rows.now c.args.base c.loop-v.v (c.args.count - c.loop-v.v) (omega (arith, c.loop-v-test.false))));
    }
