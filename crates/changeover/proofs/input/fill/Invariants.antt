-- The file keeps its length, and is filled up to a place within it.
use Rattle.std.proofs.Common.{◌≡◌, ◌≤◌, length}
use Rattle.changeover.proofs.input.fill.Given as goal

abbrev pub invariant-loop : goal.invariant-loop
invariant-loop g l = (length l.file ≡ length l.initial.file) × (l.length ≤ length l.file)
