-- The loop's invariant: no value before `d` is named and other than the start value.
use mathlib.Core.Path.{◌≡◌}
use mathlib.Core.Bool.{false, not, ◌&&◌}
use lib.Dec.{eqb}
use Rattle.files.specs.Below.{any_below}
use Rattle.reduction.specs.Dense.{named_value}
use Rattle.reduction.proofs.named.other_named.Given as goal

abbrev pub invariant-loop-d : goal.invariant-loop-d
invariant-loop-d l = any_below l.d (λ k. named_value l.named l.v k && not (eqb k l.start)) ≡ false
