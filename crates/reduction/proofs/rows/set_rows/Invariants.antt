-- The loops' invariants: the rows before `j` are set, and in row `j` the cells before `i`.
use Rattle.std.proofs.Common.{ℕ, ◌+◌, ◌*◌, ◌<◌, get_or}
use Rattle.reduction.proofs.rows.set_rows.Given as goal

abbrev pub invariant-loop-j : goal.invariant-loop-j
invariant-loop-j g l =
    (k i : ℕ) → k < l.j → i < l.width → goal.F-post g l.cell k i (get_or l.rows (l.stride * k + i) 0)

abbrev pub invariant-loop-i : goal.invariant-loop-i
invariant-loop-i g l =
    ((k i : ℕ) → k < l.j → i < l.width → goal.F-post g l.cell k i (get_or l.rows (l.stride * k + i) 0))
    × ((i : ℕ) → i < l.i → goal.F-post g l.cell l.j i (get_or l.rows (l.stride * l.j + i) 0))
