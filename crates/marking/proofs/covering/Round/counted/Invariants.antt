-- The loop's invariant: each entry before `a` is the bit of its test.
use Rattle.std.proofs.Common.{◌≡◌, ℕ, ◌<◌, get_or, length}
use Rattle.files.specs.Below.{bit}
use Rattle.marking.specs.Dense.{covered_at, counted_at}
use Rattle.marking.specs.Levels.{level_number}
use Rattle.marking.proofs.covering.Round.counted.Given as goal

abbrev pub invariant-loop-a : goal.invariant-loop-a
invariant-loop-a l =
    let r = l.self in
    let d = r.task.now in
    (length l.marks ≡ 512)
    × ((w : ℕ) → w < l.a → get_or l.marks w 0 ≡ bit (counted_at (level_number r.level) r.kept.now r.counted_before.now (covered_at r.kept.now r.could_cover.now d.effects r.tracked.now d.variables d.actions w) w))
