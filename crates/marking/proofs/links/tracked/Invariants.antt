-- The loop's invariant: the entries before `v` are told.
use Rattle.std.proofs.Common.{◌≡◌, ℕ, ◌<◌, get_or, length}
use Rattle.files.specs.Below.{bit}
use Rattle.marking.specs.Dense.{tracked_at}
use Rattle.marking.proofs.links.tracked.Given as goal

abbrev pub invariant-loop-v : goal.invariant-loop-v
invariant-loop-v l = (length l.marks ≡ 64) × ((w : ℕ) → w < l.v → get_or l.marks w 0 ≡ bit (tracked_at l.unlinked w))
