-- The first bit of a word that is not empty: it is one of those that a word can have, and `w & (w - 1)` is the word without it.
use Prim.Native.Nat.{ℕ, zero, suc, ◌+◌, ◌-◌, ◌*◌, ◌/◌, ◌%◌, ◌^◌, ◌<◌}
use mathlib.Core.Path.{◌≡◌, refl, sym, ap, ap₂, subst, ◌∙◌}
use mathlib.Core.Bool.{false, not, ◌&&◌, and_self, and-true}
use native.Mathlib.Omega.{arith}
use native.Mathlib.Nat.{mod-lt, mul_comm, pow-suc, div-add-mod', not-suc-le-zero}
use lib.Arith.{digits_div, digits_mod}
use lib.Bits.{bit_and}
use lib.Count.{under, count_trailing_zeros, trailing_of_zero}
use lib.Dec.{eqb, eqb-suc-zero, eqb-suc-suc}
use Rattle.files.proofs.Logic.{split_le}
use Rattle.bits.specs.Sets.{in_word}
use Rattle.bits.proofs.BitLaws.{in_both, in_first, in_later}

-- a word by its lowest bit and its others
by_lowest {ℓ} : (P : ℕ → Type ℓ) → ((q : ℕ) → P (2 * q + 0)) → ((q : ℕ) → P (2 * q + 1)) → (w : ℕ) → P w
by_lowest P f g w = go (w % 2) (mod-lt w (let p : 0 < 2 = omega arith in p)) (omega (arith, div-add-mod' w 2))
  where
    go : (b : ℕ) → b < 2 → 2 * (w / 2) + b ≡ w → P w
    go zero h is = subst P is (f (w / 2))
    go (suc zero) h is = subst P is (g (w / 2))
    go (suc (suc b)) h is = absurd (omega arith)

-- the zeros before its first bit
zeros_with : (n q b : ℕ) → b < 2 → count_trailing_zeros (suc n) (2 * q + b) ≡ under b (count_trailing_zeros n q)
unfolding count_trailing_zeros
zeros_with n q b h =
    ap (λ (x : ℕ). count_trailing_zeros (suc n) (x + b)) (mul_comm 2 q)
    ∙ ap₂ (λ (d r : ℕ). under d (count_trailing_zeros n r)) (digits_mod q h) (digits_div q h)

zeros_even : (n q : ℕ) → count_trailing_zeros (suc n) (2 * q + 0) ≡ suc (count_trailing_zeros n q)
zeros_even n q = zeros_with n q 0 (omega arith)

zeros_odd : (n q : ℕ) → count_trailing_zeros (suc n) (2 * q + 1) ≡ 0
zeros_odd n q = zeros_with n q 1 (omega arith)

pub zeros_below : (n w : ℕ) → 0 < w → w < 2 ^ n → count_trailing_zeros n w < n
zeros_below zero w more few = absurd (omega arith)
zeros_below (suc n) w more few =
    by_lowest (λ (w : ℕ). 0 < w → w < 2 ^ suc n → count_trailing_zeros (suc n) w < suc n)
    (λ q more few. omega (arith, zeros_even n q, zeros_below n q (omega arith) (omega (arith, pow-suc 2 n))))
    (λ q more few. omega (arith, zeros_odd n q))
    w more few

-- the word without its first bit
cleared_even : (q t : ℕ) → 0 < q → ((k : ℕ) → in_word (bit_and q (q - 1)) k ≡ in_word q k && not (eqb k t)) → (k : ℕ)
    → in_word (bit_and (2 * q + 0) (2 * q + 0 - 1)) k ≡ in_word (2 * q + 0) k && not (eqb k (suc t))
cleared_even q t more is zero =
    let none : in_word (2 * q + 0) 0 ≡ false = in_first q 0 (omega arith) in
    in_both (2 * q + 0) (2 * q + 0 - 1) 0 ∙ rw none refl
cleared_even q t more is (suc k) =
    let less : 2 * q + 0 - 1 ≡ 2 * (q - 1) + 1 = omega arith in
    let here : in_word (2 * q + 0) (suc k) ≡ in_word q k = in_later q 0 k (omega arith) in
    in_both (2 * q + 0) (2 * q + 0 - 1) (suc k)
    ∙ ap₂ ◌&&◌ here (ap (λ (w : ℕ). in_word w (suc k)) less ∙ in_later (q - 1) 1 k (omega arith))
    ∙ sym (in_both q (q - 1) k)
    ∙ is k
    ∙ ap₂ ◌&&◌ (sym here) (ap not (sym (eqb-suc-suc k t)))

cleared_odd : (q k : ℕ) → in_word (bit_and (2 * q + 1) (2 * q + 1 - 1)) k ≡ in_word (2 * q + 1) k && not (eqb k 0)
cleared_odd q zero =
    let less : 2 * q + 1 - 1 ≡ 2 * q + 0 = omega arith in
    in_both (2 * q + 1) (2 * q + 1 - 1) 0
    ∙ ap (λ b. in_word (2 * q + 1) 0 && b) (ap (λ (w : ℕ). in_word w 0) less ∙ in_first q 0 (omega arith))
cleared_odd q (suc k) =
    let less : 2 * q + 1 - 1 ≡ 2 * q + 0 = omega arith in
    let here : in_word (2 * q + 1) (suc k) ≡ in_word q k = in_later q 1 k (omega arith) in
    in_both (2 * q + 1) (2 * q + 1 - 1) (suc k)
    ∙ ap₂ ◌&&◌ here (ap (λ (w : ℕ). in_word w (suc k)) less ∙ in_later q 0 k (omega arith))
    ∙ and_self (in_word q k)
    ∙ sym (and-true (in_word q k))
    ∙ ap₂ ◌&&◌ (sym here) (ap not (sym (eqb-suc-zero k)))

pub cleared : (n w : ℕ) → count_trailing_zeros n w < n → (k : ℕ) → in_word (bit_and w (w - 1)) k ≡ in_word w k && not (eqb k (count_trailing_zeros n w))
cleared zero w h k = absurd (not-suc-le-zero h)
cleared (suc n) w h k =
    by_lowest (λ (w : ℕ). count_trailing_zeros (suc n) w < suc n → (k : ℕ) → in_word (bit_and w (w - 1)) k ≡ in_word w k && not (eqb k (count_trailing_zeros (suc n) w)))
    (λ q h k.
    let is = zeros_even n q in
    let more : 0 < q = split_le q 0 (λ l. let z : q ≡ 0 = omega arith in absurd (omega (arith, is, ap (count_trailing_zeros n) z, trailing_of_zero n))) (λ l. l) in
    cleared_even q (count_trailing_zeros n q) more (cleared n q (omega (arith, is))) k ∙ ap (λ (v : ℕ). in_word (2 * q + 0) k && not (eqb k v)) (sym is))
    (λ q h k. cleared_odd q k ∙ ap (λ (v : ℕ). in_word (2 * q + 1) k && not (eqb k v)) (sym (zeros_odd n q)))
    w h k
