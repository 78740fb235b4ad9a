-- The loop's invariant: the cells before `i` are set, and those below `to` are as they were.
use Rattle.std.proofs.Common.{◌≡◌, ℕ, ◌+◌, ◌<◌, slice_index_or}
use Rattle.reduction.proofs.rows.set_row.Given as goal

abbrev pub invariant-loop-i : goal.invariant-loop-i
invariant-loop-i g l =
    ((j : ℕ) (d : _) → j < l.i → goal.F-post g l.cell j (slice_index_or l.row (l.to + j) d))
    × ((j : ℕ) (d : _) → j < l.to → slice_index_or l.row j d ≡ slice_index_or l.fn.row j d)
