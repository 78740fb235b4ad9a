-- The loop's invariant: the weights before `v` are there, and `weight` is that of `v`.
use Prim.Native.Nat.{ℕ, ◌≤◌, ◌<◌}
use mathlib.Core.Path.{◌≡◌}
use lib.ListN.{length, get_or}
use Rattle.lookup.specs.Moves.{row_weight}
use Rattle.distances.proofs.states.weights.Given as goal

abbrev pub invariant-loop-v : goal.invariant-loop-v
invariant-loop-v l =
    ((w : ℕ) → w < l.v → get_or l.weights w 0 ≡ row_weight l.sizes w) × (l.weight ≡ row_weight l.sizes l.v) × (l.v ≤ l.variables) × (length l.weights ≡ 64)
