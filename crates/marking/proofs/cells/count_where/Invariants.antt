-- The loop's invariant: so many of the numbers before `i` passed.
use Rattle.std.proofs.Common.{◌≡◌, ℕ, ◌≤◌, ◌<◌, Bool}
use Rattle.files.specs.Below.{count_below}
use Rattle.marking.proofs.cells.count_where.Given as goal

abbrev pub invariant-loop-i : goal.invariant-loop-i
invariant-loop-i g l =
    ((p : ℕ → Bool) → ((i : ℕ) (b : Bool) → i < l.fn.count → goal.F-post g l.fn.test i b → b ≡ p i) → l.passed ≡ count_below l.i p)
    × (l.passed ≤ l.i)
