-- The loop's invariant: the count is that of the values before `d`.
use Prim.Native.Nat.{◌≤◌}
use mathlib.Core.Path.{◌≡◌}
use Rattle.files.specs.Below.{count_below}
use Rattle.reduction.specs.Dense.{named_value}
use Rattle.reduction.proofs.named.named_in.Given as goal

abbrev pub invariant-loop-d : goal.invariant-loop-d
invariant-loop-d l = (l.count ≡ count_below l.d (named_value l.named l.v)) × (l.count ≤ l.d)
