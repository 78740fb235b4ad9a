use Rattle.std.proofs.Common.{refl, arith, rules}
use Rattle.files.proofs.Filling.{zeros_entry}
use Rattle.files.proofs.Valid.{task_valid}
use Rattle.marking.proofs.HeldMarks.{held_limits}
use Rattle.marking.proofs.LikeLevels.{row_like, round_like}
use Rattle.marking.proofs.Rounding.{rounding_begins, rounds_few, rounding_less, rounding_next, rounding_ends}
use Rattle.marking.proofs.rounds.run.Goals as goal

pub fill-requires : goal.fill-requires
fill-requires c = record { limits = held_limits _ c.requires; room = omega arith; empty = zeros_entry 4096 }

pub first-marks-requires : goal.first-marks-requires
first-marks-requires c = let limits = held_limits _ c.requires in limits.few_variables

pub count-count-requires : goal.count-count-requires
count-count-requires c = let limits = held_limits _ c.requires in limits.few_actions

pub loop-count-init : goal.loop-count-init
loop-count-init c =
    let first = c.first-marks.ensures in
    let marked = rw first.kept at c.count-count.ensures in
    rw (first.kept, first.unlinked, first.rounds)
    (rounding_begins c.args.task.now (task_valid _ c.requires) c.args.level _
    (row_like _ _ c.like-level.ensures _ refl _ _ _ _ 0 _ first.facts) _ marked)

pub threatened-requires : goal.threatened-requires
threatened-requires c = record { source = held_limits _ c.requires; room = omega arith }

pub unlinked-unlinked-requires : goal.unlinked-unlinked-requires
unlinked-unlinked-requires c = let limits = held_limits _ c.requires in limits.few_variables

pub gain_actions-requires : goal.gain_actions-requires
gain_actions-requires c = held_limits _ c.requires

pub tracked-requires : goal.tracked-requires
tracked-requires c = let limits = held_limits _ c.requires in limits.few_variables

pub counted-counted-requires : goal.counted-counted-requires
counted-counted-requires c = held_limits _ c.requires

pub slice_bounds-gain_facts-end : goal.slice_bounds-gain_facts-end
slice_bounds-gain_facts-end c = search (rules, c.loop-count.invariant.progress.facts_long)

pub gain_facts-requires : goal.gain_facts-requires
gain_facts-requires c = record { source = held_limits _ c.requires; room = omega (arith, c.loop-count.invariant.progress.facts_long) }

pub overflow_add-marks : goal.overflow_add-marks
overflow_add-marks c =
    omega (arith, rounds_few c.args.task.now (task_valid _ c.requires) c.args.level _ _ _ _ _ _ _ _ c.loop-count.invariant)

pub count-next-requires : goal.count-next-requires
count-next-requires c = let limits = held_limits _ c.requires in limits.few_actions

pub returns-then-next-count : goal.returns-then-next-count
returns-then-next-count c =
    let l = c.loop-count in
    rounding_ends c.args.task.now (task_valid _ c.requires) c.args.level _ _ _ _ _ _ _ l.marks.rounds l.count l.invariant _ _ _ _ _ _
    (round_like _ _ c.like-level.ensures _ c.is_whole-whole.ensures _ _ _ _ _ _ _ _ _ _ _ _ _ _
    c.fill.ensures c.threatened.ensures c.unlinked-unlinked.ensures c.gain_actions.ensures c.tracked.ensures c.counted-counted.ensures c.gain_facts.ensures)
    _ c.count-next.ensures
    c.if-next-count.true

pub loop-count-smaller : goal.loop-count-smaller
loop-count-smaller c = rounding_less c.args.task.now (task_valid _ c.requires) c.args.level _ _ _ _ _ _ _ _ c.loop-count.invariant

pub loop-count-preserved : goal.loop-count-preserved
loop-count-preserved c =
    let l = c.loop-count in
    rounding_next c.args.task.now (task_valid _ c.requires) c.args.level _ _ _ _ _ _ _ l.marks.rounds l.count l.invariant _ _ _ _ _ _
    (round_like _ _ c.like-level.ensures _ c.is_whole-whole.ensures _ _ _ _ _ _ _ _ _ _ _ _ _ _
    c.fill.ensures c.threatened.ensures c.unlinked-unlinked.ensures c.gain_actions.ensures c.tracked.ensures c.counted-counted.ensures c.gain_facts.ensures)
    _ c.count-next.ensures
    c.if-next-count.false
