-- The loop's invariant: the values before `d` are numbered, and `rank` is how many of them are named.
use Prim.Native.Nat.{ℕ, ◌+◌, ◌*◌, ◌≤◌, ◌<◌}
use mathlib.Core.Path.{◌≡◌}
use lib.ListN.{get_or}
use Rattle.files.specs.Below.{count_below}
use Rattle.reduction.specs.Dense.{named_value, new_value_at}
use Rattle.reduction.proofs.renumber.number_values.Given as goal

abbrev pub invariant-loop-d : goal.invariant-loop-d
invariant-loop-d l =
    ((e : ℕ) → e < l.d → get_or l.values (32 * l.v + e) 0 ≡ new_value_at l.named l.v e)
    × ((i : ℕ) → i < 32 * l.v → get_or l.values i 0 ≡ get_or l.initial.values i 0)
    × (l.rank ≡ count_below l.d (named_value l.named l.v))
    × (l.rank ≤ l.d)
