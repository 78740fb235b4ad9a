-- The loop's invariant: `number` is that of the start values from `v` on.
use Prim.Native.Nat.{◌-◌, ◌≤◌}
use mathlib.Core.Path.{◌≡◌}
use Rattle.plans.specs.Tally.{list_state}
use Rattle.distances.proofs.RowNumbers.{number_from}
use Rattle.distances.proofs.states.start_number.Given as goal

abbrev pub invariant-loop-v : goal.invariant-loop-v
invariant-loop-v l =
    (l.number ≡ number_from l.sizes (list_state l.starts) l.v (l.variables - l.v)) × (l.v ≤ l.variables)
