-- States numbered in mixed radix, variable 0 least.
use Rattle.std.specs.Prelude.{ℕ, zero, suc, ◌+◌, ◌*◌, ◌/◌, ◌%◌, List, [], ◌∷◌}
use Rattle.files.specs.Task.{Variable}
use Rattle.plans.specs.State.{State}

-- the product of the domain sizes, 1 without variables
unfoldable pub state_count : List Variable → ℕ
state_count [] = 1
state_count (x ∷ xs) = x.size * state_count xs

unfoldable pub state_number : List Variable → State → ℕ
state_number [] s = 0
state_number (x ∷ xs) s = s 0 + x.size * state_number xs (λ v. s (suc v))

-- the state of a number
unfoldable pub state_at : List Variable → ℕ → State
state_at [] n v = 0
state_at (x ∷ xs) n zero = n % x.size
state_at (x ∷ xs) n (suc v) = state_at xs (n / x.size) v
