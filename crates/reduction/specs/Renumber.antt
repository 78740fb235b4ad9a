-- New numbers of kept variables and of their values.
use Rattle.std.specs.Prelude.{ℕ, ◌+◌, Bool, not, cond}
use Rattle.files.specs.Below.{bit, any_below, count_below}
use Rattle.files.specs.Task.{Task, size_of}
use Rattle.reduction.specs.Named.{named, kept_variable}

-- kept variables stay in order: as many are kept before it
unfoldable pub new_variable : Task → (ℕ → Bool) → ℕ → ℕ
new_variable t A v = count_below v (kept_variable t A)

unfoldable pub named_count : Task → (ℕ → Bool) → ℕ → ℕ
named_count t A v = count_below (size_of t v) (named t A v)

-- named values get 0, 1, .. in rising order; all values left over become one, with the next number
unfoldable pub new_value : Task → (ℕ → Bool) → ℕ → ℕ → ℕ
new_value t A v value = cond (named t A v value) (count_below value (named t A v)) (named_count t A v)

unfoldable pub new_size : Task → (ℕ → Bool) → ℕ → ℕ
new_size t A v = named_count t A v + bit (any_below (size_of t v) (λ value. not (named t A v value)))
