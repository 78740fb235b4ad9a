-- Groups of three digits, and the table that has them all.
use Rattle.std.specs.Prelude.{ℕ, ◌+◌, ◌*◌, ◌/◌, ◌%◌, ◌<◌, ◌≡◌, List, [], ◌∷◌, get_or}

-- the digits of a number below 1,000 in one number: hundreds times 256, tens times 16, units
unfoldable pub packed_digits : ℕ → ℕ
packed_digits n = n / 100 * 256 + n / 10 % 10 * 16 + n % 10

-- a table of 1,000 numbers: entry n has the digits of n
pub record DigitTable (table : List ℕ) : Type 0 where
  pub entry : (n : ℕ) → n < 1000 → get_or table n 0 ≡ packed_digits n

-- a number below 1,000 as three digits
unfoldable pub three : ℕ → List ℕ
three n = (48 + n / 100) ∷ (48 + n / 10 % 10) ∷ (48 + n % 10) ∷ []
