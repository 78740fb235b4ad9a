-- The loop's invariant: each value before `d` is its own new value.
use Prim.Native.Nat.{◌+◌}
use mathlib.Core.Path.{◌≡◌}
use mathlib.Core.Bool.{true}
use lib.Dec.{eqb}
use lib.ListN.{get_or}
use Rattle.files.specs.Below.{all_below}
use Rattle.reduction.proofs.origins.row_unmoved.Given as goal

abbrev pub invariant-loop-d : goal.invariant-loop-d
invariant-loop-d l = all_below l.d (λ k. eqb (get_or l.values (l.base + k) 0) k) ≡ true
