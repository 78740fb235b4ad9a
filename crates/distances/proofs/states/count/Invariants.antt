-- The loop's invariant: `states` is the count of the states of the variables before `v`.
use Prim.Native.Nat.{◌≤◌}
use mathlib.Core.Path.{◌≡◌}
use Rattle.lookup.specs.Moves.{row_weight}
use Rattle.distances.proofs.states.count.Given as goal

abbrev pub invariant-loop-v : goal.invariant-loop-v
invariant-loop-v l =
    (l.states ≡ row_weight l.sizes l.v) × (l.v ≤ l.variables) × (l.states ≤ 4096)
