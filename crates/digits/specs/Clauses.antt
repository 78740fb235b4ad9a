-- Names for the parts of what functions ask and ensure.
use Rattle.std.specs.Prelude.{ℕ, ◌+◌, ◌≤◌, ◌<◌, ◌≡◌, List, length, take}
use Rattle.digits.specs.Decimal.{decimal}

-- r counts bytes at the front of a buffer; the second follows, and a part of the buffer that is printed asks for it
abbrev pub Counts : ℕ → List ℕ → Type 0
Counts r buffer = (r ≤ length buffer) × (r ≡ length (take r buffer))

-- a number below 1,000, and room for its digits
pub record FrontFits (buffer : List ℕ) (at n : ℕ) : Type 0 where
  pub below : n < 1000
  pub room : at + length (decimal n) ≤ length buffer

-- a number below 1,000, and room for three digits
pub record ThreeFit (buffer : List ℕ) (at n : ℕ) : Type 0 where
  pub below : n < 1000
  pub room : at + 3 ≤ length buffer

-- as many digits as a number has, and room for them
pub record DigitsFit (buffer : List ℕ) (at count n : ℕ) : Type 0 where
  pub counted : count ≡ length (decimal n)
  pub room : at + count ≤ length buffer

-- a column that is wide enough for a number, and room for it
pub record ColumnFits (buffer : List ℕ) (at width n : ℕ) : Type 0 where
  pub wide : length (decimal n) ≤ width
  pub room : at + width ≤ length buffer
