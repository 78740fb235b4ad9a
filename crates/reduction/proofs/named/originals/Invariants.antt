-- The loop's invariant: the numbers so far are those chosen before `a`.
use Prim.Native.Nat.{◌≤◌}
use mathlib.Core.Path.{◌≡◌}
use Rattle.files.specs.Below.{chosen_below}
use Rattle.files.specs.Dense.{row_numbers}
use Rattle.marking.specs.Dense.{is_marked}
use Rattle.reduction.proofs.named.originals.Given as goal

abbrev pub invariant-loop-a : goal.invariant-loop-a
invariant-loop-a l = (row_numbers l.numbers 0 l.count ≡ chosen_below l.a (is_marked l.kept)) × (l.count ≤ l.a)
