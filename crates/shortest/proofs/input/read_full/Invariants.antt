-- The buffer keeps its length, and is filled up to a place within it.
use Rattle.std.proofs.Common.{◌≡◌, ◌≤◌, length}
use Rattle.shortest.proofs.input.read_full.Given as goal

abbrev pub invariant-loop : goal.invariant-loop
invariant-loop g l = (length l.buffer ≡ length l.initial.buffer) × (l.length ≤ length l.buffer)
