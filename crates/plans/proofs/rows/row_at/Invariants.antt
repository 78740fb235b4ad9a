-- The loop's invariant: each cell before `v` is copied, and each from `v` on says no pair.
use Rattle.std.proofs.Common.{ℕ, ◌≡◌, ◌+◌, ◌≤◌, ◌<◌, length, get_or}
use Rattle.plans.proofs.rows.row_at.Given as goal

abbrev pub invariant-loop-v : goal.invariant-loop-v
invariant-loop-v l =
    ((w : ℕ) → w < l.v → get_or l.row w 0 ≡ get_or l.rows (l.base + w) 0)
    × ((w : ℕ) → l.v ≤ w → w < 64 → get_or l.row w 0 ≡ 255)
    × (length l.row ≡ 64)
