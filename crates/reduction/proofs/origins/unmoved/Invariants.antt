-- The loop's invariant: each row before `v` moves no value.
use Prim.Native.Nat.{◌*◌}
use mathlib.Core.Path.{◌≡◌}
use mathlib.Core.Bool.{true}
use lib.ListN.{get_or}
use Rattle.files.specs.Below.{all_below}
use Rattle.reduction.specs.Composed.{row_unmoved}
use Rattle.reduction.proofs.origins.unmoved.Given as goal

abbrev pub invariant-loop-v : goal.invariant-loop-v
invariant-loop-v l = all_below l.v (λ v. row_unmoved l.later.values (32 * v) (get_or l.task.sizes v 0)) ≡ true
