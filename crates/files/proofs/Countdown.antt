-- A number that counts down: how it is read where a definition recurses on it.
use Prim.Native.Nat.{ℕ, suc, ◌+◌, ◌-◌, ◌≤◌, ◌<◌}
use mathlib.Core.Path.{◌≡◌}
use native.Mathlib.Omega.{arith}

pub one_more : (k : ℕ) → 0 < k → k ≡ suc (k - 1)
one_more k h = omega arith

pub none_left : (k : ℕ) → k ≤ 0 → k ≡ 0
none_left k h = omega arith

-- the same of the entries from i on, of `count`
pub more_from : (i count : ℕ) → i < count → count - i ≡ suc (count - (i + 1))
more_from i count h = omega arith

pub none_from : (i count : ℕ) → count ≤ i → count - i ≡ 0
none_from i count h = omega arith
