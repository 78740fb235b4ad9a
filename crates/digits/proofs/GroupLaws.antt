-- Laws of digits by threes: short numbers, one group more, and the digits out of a packed number.
use Prim.Native.Nat.{ℕ, ◌+◌, ◌*◌, ◌/◌, ◌%◌, ◌^◌, ◌≤◌, ◌<◌}
use mathlib.Core.Path.{◌≡◌, refl, sym, ap, ◌∙◌}
use mathlib.Core.List.{List, [], ◌∷◌, ◌++◌, append_assoc}
use native.Mathlib.Omega.{arith}
use lib.ListN.{length, length-append}
use Rattle.digits.specs.Decimal.{digits, decimal}
use Rattle.digits.specs.Groups.{packed_digits, three}
use Rattle.digits.specs.Reads.{PackedReads}
use Rattle.digits.proofs.DecimalLaws.{digits_last, digits_more, digits_fuel, digits_length_lem}

-- numbers below 1,000

pub decimal_one : (n : ℕ) → n < 10 → decimal n ≡ (48 + n) ∷ []
unfolding decimal
decimal_one n h = digits_last 19 n h

pub decimal_two : (n : ℕ) → 10 ≤ n → n < 100 → decimal n ≡ (48 + n / 10) ∷ (48 + n % 10) ∷ []
unfolding decimal
decimal_two n l h =
    digits_more 19 n l ∙ ap (λ (r : List ℕ). r ++ ((48 + n % 10) ∷ [])) (digits_last 18 (n / 10) (omega (arith, h)))

pub decimal_front : (n : ℕ) → 100 ≤ n → n < 1000 → decimal n ≡ three n
unfolding decimal three
decimal_front n l h =
    let e : n / 10 / 10 ≡ n / 100 = omega arith in
    digits_more 19 n (omega (arith, l))
    ∙ ap (λ (r : List ℕ). r ++ ((48 + n % 10) ∷ [])) (digits_more 18 (n / 10) (omega (arith, l)) ∙ ap (λ (r : List ℕ). r ++ ((48 + n / 10 % 10) ∷ [])) (digits_last 17 (n / 10 / 10) (omega (arith, h))))
    ∙ ap (λ (x : ℕ). (48 + x) ∷ (48 + n / 10 % 10) ∷ (48 + n % 10) ∷ []) e

pub front_one : (n : ℕ) → n < 10 → 1 ≡ length (decimal n)
front_one n h = ap (λ (r : List ℕ). length r) (sym (decimal_one n h))

pub front_two : (n : ℕ) → 10 ≤ n → n < 100 → 2 ≡ length (decimal n)
front_two n l h = ap (λ (r : List ℕ). length r) (sym (decimal_two n l h))

pub three_length : (n : ℕ) → length (three n) ≡ 3
unfolding three
three_length n = refl

pub front_three : (n : ℕ) → 100 ≤ n → n < 1000 → 3 ≡ length (decimal n)
front_three n l h = sym (ap (λ (r : List ℕ). length r) (decimal_front n l h) ∙ three_length n)

-- one group more

pub decimal_length : (n : ℕ) → length (decimal n) ≤ 20
unfolding decimal
decimal_length n = digits_length_lem 20 n

pub decimal_next : (n : ℕ) → 1000 ≤ n → n < 2 ^ 64 → decimal n ≡ decimal (n / 1000) ++ three (n % 1000)
unfolding decimal three
decimal_next n l h =
    let front : List ℕ = digits 17 (n / 10 / 10 / 10) in
    let e : n / 10 / 10 / 10 ≡ n / 1000 = omega arith in
    let hundreds : n / 10 / 10 % 10 ≡ n % 1000 / 100 = omega arith in
    let tens : n / 10 % 10 ≡ n % 1000 / 10 % 10 = omega arith in
    let units : n % 10 ≡ n % 1000 % 10 = omega arith in
    digits_more 19 n (omega (arith, l))
    ∙ ap (λ (r : List ℕ). r ++ ((48 + n % 10) ∷ [])) (digits_more 18 (n / 10) (omega (arith, l)) ∙ ap (λ (r : List ℕ). r ++ ((48 + n / 10 % 10) ∷ [])) (digits_more 17 (n / 10 / 10) (omega (arith, l))))
    ∙ ap (λ (r : List ℕ). r ++ ((48 + n % 10) ∷ [])) (append_assoc front ((48 + n / 10 / 10 % 10) ∷ []) ((48 + n / 10 % 10) ∷ []))
    ∙ append_assoc front ((48 + n / 10 / 10 % 10) ∷ (48 + n / 10 % 10) ∷ []) ((48 + n % 10) ∷ [])
    ∙ ap (λ (x : ℕ). digits 17 x ++ ((48 + n / 10 / 10 % 10) ∷ (48 + n / 10 % 10) ∷ (48 + n % 10) ∷ [])) e
    ∙ ap (λ (r : List ℕ). r ++ ((48 + n / 10 / 10 % 10) ∷ (48 + n / 10 % 10) ∷ (48 + n % 10) ∷ [])) (digits_fuel 16 19 (n / 1000) (omega (arith, h)) (omega (arith, h)))
    ∙ ap (λ (x : ℕ). digits 20 (n / 1000) ++ ((48 + x) ∷ (48 + n / 10 % 10) ∷ (48 + n % 10) ∷ [])) hundreds
    ∙ ap (λ (x : ℕ). digits 20 (n / 1000) ++ ((48 + n % 1000 / 100) ∷ (48 + x) ∷ (48 + n % 10) ∷ [])) tens
    ∙ ap (λ (x : ℕ). digits 20 (n / 1000) ++ ((48 + n % 1000 / 100) ∷ (48 + n % 1000 / 10 % 10) ∷ (48 + x) ∷ [])) units

pub decimal_next_length : (n : ℕ) → 1000 ≤ n → n < 2 ^ 64 → length (decimal n) ≡ length (decimal (n / 1000)) + 3
decimal_next_length n l h =
    ap (λ (r : List ℕ). length r) (decimal_next n l h)
    ∙ length-append (decimal (n / 1000)) (three (n % 1000))
    ∙ ap (λ (k : ℕ). length (decimal (n / 1000)) + k) (three_length (n % 1000))

-- the digits out of a packed number

packed_apart : (h t u : ℕ) → t < 16 → u < 16 → ((h * 256 + t * 16 + u) / 256 ≡ h) × ((h * 256 + t * 16 + u) / 16 % 16 ≡ t) × ((h * 256 + t * 16 + u) % 16 ≡ u)
packed_apart h t u b c = (omega (arith, b, c), omega (arith, b, c), omega (arith, b, c))

pub packed_hundreds : (n : ℕ) → packed_digits n / 256 ≡ n / 100
unfolding packed_digits
packed_hundreds n = (packed_apart (n / 100) (n / 10 % 10) (n % 10) (omega arith) (omega arith)).0

pub packed_tens : (n : ℕ) → packed_digits n / 16 % 16 ≡ n / 10 % 10
unfolding packed_digits
packed_tens n = (packed_apart (n / 100) (n / 10 % 10) (n % 10) (omega arith) (omega arith)).1

pub packed_units : (n : ℕ) → packed_digits n % 16 ≡ n % 10
unfolding packed_digits
packed_units n = (packed_apart (n / 100) (n / 10 % 10) (n % 10) (omega arith) (omega arith)).2

pub packed_digits_lem : (n : ℕ) → n < 1000 → PackedReads n
packed_digits_lem n h =
    record {
      hundreds = (packed_hundreds n, omega (arith, packed_hundreds n, h));
      tens = (packed_tens n, omega (arith, packed_tens n));
      units = (packed_units n, omega (arith, packed_units n));
    }

pub packed_two : (n : ℕ) → n < 100 → packed_digits n / 16 ≡ n / 10
unfolding packed_digits
packed_two n h =
    let none : n / 100 ≡ 0 = omega (arith, h) in
    let tens : n / 10 % 10 ≡ n / 10 = omega (arith, h) in
    rw (none, tens) (sixteenth (n / 10) (n % 10) (omega arith))
  where
    sixteenth : (t u : ℕ) → u < 16 → (0 * 256 + t * 16 + u) / 16 ≡ t
    sixteenth t u b = omega (arith, b)

pub packed_one : (n : ℕ) → n < 10 → packed_digits n ≡ n
unfolding packed_digits
packed_one n h = omega (arith, h)
