-- The loop's invariant: the entries before `i` are told, and those from `i` on are zero.
use Rattle.std.proofs.Common.{◌≡◌, ℕ, ◌≤◌, ◌<◌, get_or, length}
use Rattle.files.specs.Below.{bit}
use Rattle.marking.specs.Dense.{unlinked_at}
use Rattle.marking.specs.Levels.{level_number}
use Rattle.marking.proofs.links.unlinked.Given as goal

abbrev pub invariant-loop-i : goal.invariant-loop-i
invariant-loop-i l =
    (length l.marks ≡ 2048)
    × ((k : ℕ) → k < l.i → get_or l.marks k 0 ≡ bit (unlinked_at (level_number l.level) l.facts l.task.starts l.threats k))
    × ((k : ℕ) → l.i ≤ k → get_or l.marks k 0 ≡ 0)
