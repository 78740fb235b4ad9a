-- The loop's invariant: each entry before `a` is the count of its row.
use Rattle.std.proofs.Common.{◌≡◌, ℕ, ◌*◌, ◌<◌, get_or, length}
use Rattle.marking.specs.Dense.{conditions_in}
use Rattle.marking.proofs.cover_table.condition_counts.Given as goal

abbrev pub invariant-loop-a : goal.invariant-loop-a
invariant-loop-a l =
    (length l.counts ≡ 512) × ((w : ℕ) → w < l.a → get_or l.counts w 0 ≡ conditions_in l.task.conditions (64 * w) l.task.variables)
