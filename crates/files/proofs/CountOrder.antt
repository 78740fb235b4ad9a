-- Counts and sums below a bound, compared: with more that pass the count is no less, and where it is the same the same pass.
use Prim.Native.Nat.{ℕ, zero, suc, ◌≤◌, ◌<◌}
use mathlib.Core.Path.{◌≡◌, refl}
use mathlib.Core.Bool.{Bool, true, false}
use native.Mathlib.Omega.{arith}
use native.Mathlib.Nat.{not-suc-le-zero}
use Rattle.files.specs.Below.{bit, count_below, sum_below}
use Rattle.files.proofs.BelowLaws.{bit_most}
use Rattle.files.proofs.Logic.{split_le}

bit_order : (a b : Bool) → (a ≡ true → b ≡ true) → bit a ≤ bit b
bit_order true b h = rw (h refl) (omega arith)
bit_order false b h = omega arith

bit_same : (a b : Bool) → bit a ≡ bit b → a ≡ b
bit_same true true e = refl
bit_same true false e = absurd (omega arith)
bit_same false true e = absurd (omega arith)
bit_same false false e = refl

pub count_order : (n : ℕ) (f g : ℕ → Bool) → ((i : ℕ) → i < n → f i ≡ true → g i ≡ true) → count_below n f ≤ count_below n g
count_order zero f g h = omega arith
count_order (suc n) f g h =
    omega (arith, bit_order (f n) (g n) (h n (omega arith)), count_order n f g (λ i l. h i (omega arith)))

pub count_same : (n : ℕ) (f g : ℕ → Bool) → ((i : ℕ) → i < n → f i ≡ true → g i ≡ true) → count_below n g ≤ count_below n f → (i : ℕ) → i < n → f i ≡ g i
count_same zero f g h q i l = absurd (not-suc-le-zero l)
count_same (suc n) f g h q i l =
    let last = bit_order (f n) (g n) (h n (omega arith)) in
    let below = count_order n f g (λ i l. h i (omega arith)) in
    split_le n i
    (λ m. let here : i ≡ n = omega arith in rw here (bit_same (f n) (g n) (omega arith)))
    (λ m. count_same n f g (λ i l. h i (omega arith)) (omega arith) i m)

pub count_most : (n : ℕ) (f : ℕ → Bool) → count_below n f ≤ n
count_most zero f = omega arith
count_most (suc n) f = omega (arith, count_most n f, bit_most (f n))

pub sum_order : (n : ℕ) (f g : ℕ → ℕ) → ((i : ℕ) → i < n → f i ≤ g i) → sum_below n f ≤ sum_below n g
sum_order zero f g h = omega arith
sum_order (suc n) f g h = omega (arith, h n (omega arith), sum_order n f g (λ i l. h i (omega arith)))

pub sum_same : (n : ℕ) (f g : ℕ → ℕ) → ((i : ℕ) → i < n → f i ≤ g i) → sum_below n g ≤ sum_below n f → (i : ℕ) → i < n → g i ≤ f i
sum_same zero f g h q i l = absurd (not-suc-le-zero l)
sum_same (suc n) f g h q i l =
    let last = h n (omega arith) in
    let below = sum_order n f g (λ i l. h i (omega arith)) in
    split_le n i
    (λ m. let here : i ≡ n = omega arith in rw here (omega arith))
    (λ m. sum_same n f g (λ i l. h i (omega arith)) (omega arith) i m)
