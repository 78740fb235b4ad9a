-- The loop's invariant: the numbers so far are those chosen before `v`.
use Prim.Native.Nat.{◌≤◌}
use mathlib.Core.Path.{◌≡◌}
use Rattle.files.specs.Below.{chosen_below}
use Rattle.files.specs.Dense.{row_numbers}
use Rattle.reduction.specs.Dense.{keeps_at}
use Rattle.reduction.proofs.named.kept_variables.Given as goal

abbrev pub invariant-loop-v : goal.invariant-loop-v
invariant-loop-v l =
    (row_numbers l.numbers 0 l.count ≡ chosen_below l.v (keeps_at l.named l.changed l.starts)) × (l.count ≤ l.v)
