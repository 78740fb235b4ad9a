-- A test as a number: 1 where it passes, else 0.
use Rattle.std.proofs.Common.{◌≡◌, ◌≤◌, refl, arith, ap, ◌∙◌, ℕ, Bool, true, false}
use Rattle.std.specs.Int.{from_bool}
use Rattle.files.specs.Below.{bit}
use Rattle.files.proofs.BelowLaws.{bit_most}

as_bit : (b : Bool) → from_bool b ≡ bit b
as_bit true = refl
as_bit false = refl

-- a number that tells a test
pub from_test : {n : ℕ} {b c : Bool} → n ≡ from_bool b → b ≡ c → n ≡ bit c
from_test {n} {b} {c} e is = e ∙ as_bit b ∙ ap bit is

pub test_most : {n : ℕ} (b : Bool) → n ≡ from_bool b → n ≤ 1
test_most b e = omega (arith, e ∙ as_bit b, bit_most b)
