-- The pairs from v on, placed behind those that stand, make all the pairs, and so do their bytes.
use Rattle.std.proofs.Common.{◌≡◌, ◌+◌, ◌*◌, ◌-◌, length}
use Rattle.files.specs.Bytes.{placed}
use Rattle.files.specs.Dense.{row_pairs}
use Rattle.files.specs.TaskFile.{pair_bytes}
use Rattle.files.proofs.write.put_pairs.Given as goal

abbrev pub invariant-loop-v : goal.invariant-loop-v
invariant-loop-v l =
    (placed l.buffer l.place (pair_bytes (row_pairs l.rows l.base l.v (l.count - l.v))) ≡ placed l.initial.buffer l.at (pair_bytes (row_pairs l.rows l.base 0 l.count)))
    × (l.place + 4 * length (row_pairs l.rows l.base l.v (l.count - l.v)) ≡ l.at + 4 * length (row_pairs l.rows l.base 0 l.count))
