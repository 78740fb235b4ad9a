-- The loop's invariant: the values of the variables before `v` are numbered.
use Prim.Native.Nat.{ℕ, ◌+◌, ◌*◌, ◌<◌}
use mathlib.Core.Path.{◌≡◌}
use lib.ListN.{length, get_or}
use Rattle.reduction.specs.Dense.{new_value_at}
use Rattle.reduction.proofs.renumber.new_values.Given as goal

abbrev pub invariant-loop-v : goal.invariant-loop-v
invariant-loop-v l =
    (length l.values ≡ 2048)
    × ((w d : ℕ) → w < l.v → d < 32 → get_or l.values (32 * w + d) 0 ≡ new_value_at l.named w d)
