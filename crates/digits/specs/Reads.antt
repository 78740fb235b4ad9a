-- What is promised of decimal digits: they state the number, the first is no spare zero, and there are few of them; and
-- of packed digits: each can be read again.
use Rattle.std.specs.Prelude.{ℕ, ◌/◌, ◌%◌, ◌≤◌, ◌<◌, ◌^◌, ◌≡◌, length, get_or}
use Rattle.digits.specs.Decimal.{decimal, number_of}
use Rattle.digits.specs.Groups.{packed_digits}

pub record DecimalReads (n : ℕ) : Type 0 where
  pub reads : number_of (decimal n) ≡ n
  -- digits alone
  pub digits : (i : ℕ) → i < length (decimal n) → (48 ≤ get_or (decimal n) i 0) × (get_or (decimal n) i 0 ≤ 57)
  -- at least one, the first not 0 but in 0
  pub some : 0 < length (decimal n)
  pub leading : 0 < n → 48 < get_or (decimal n) 0 0
  -- no more than k below 10^k
  pub few : (k : ℕ) → 0 < k → n < 10 ^ k → length (decimal n) ≤ k

-- hundreds, tens and units of a number, each a digit
pub record PackedReads (n : ℕ) : Type 0 where
  pub hundreds : (packed_digits n / 256 ≡ n / 100) × (packed_digits n / 256 < 10)
  pub tens : (packed_digits n / 16 % 16 ≡ n / 10 % 10) × (packed_digits n / 16 % 16 < 10)
  pub units : (packed_digits n % 16 ≡ n % 10) × (packed_digits n % 16 < 10)
