-- Which numbers are in the sets of words: of a word shifted, of the bits of two words, of a word with a bit more, of a power
-- of two, before and at the first bit, and of words in a row.
use Prim.Native.Nat.{ℕ, zero, suc, ◌+◌, ◌*◌, ◌/◌, ◌%◌, ◌^◌, ◌≤◌, ◌<◌, min, max}
use mathlib.Core.Path.{◌≡◌, refl, sym, ap, ap₂, ◌∙◌}
use mathlib.Core.Bool.{Bool, true, false, ◌&&◌, ◌||◌, or-false}
use mathlib.Core.List.{List}
use native.Mathlib.Omega.{arith}
use native.Mathlib.Nat.{div-one, mod-lt, mul_comm, min-le_left, max-le, pow-suc, zero-div, not-suc-le-zero, zero-add, one-mul, div-add-mod'}
use native.Mathlib.Numerals.{one-add}
use lib.Arith.{digits_div, digits_mod}
use lib.Bits.{bit_and, and_step, and_shr, bit_or, or_step, or_shr}
use lib.Count.{count_trailing_zeros}
use lib.Dec.{eqb, eqb-zero-suc, eqb-suc-zero, eqb-suc-suc}
use lib.ListN.{length, get_or, set, replicate, get_or-replicate}
use lib.Pow.{shr-shr, shl_exact}
use lib.Seq.{get_or-set_same, get_or-set_other}
use borrow.Author.Tests.{eqb-true, eqb-false, eq-eqb, ne_eqb}
use Rattle.files.proofs.BelowLaws.{all_below_elim}
use Rattle.files.proofs.Logic.{split, split_le}
use Rattle.bits.specs.Sets.{in_word, in_words, Added, Kept}

-- of a word shifted
pub in_shifted : (w j k : ℕ) → in_word (w / 2 ^ j) k ≡ in_word w (j + k)
unfolding in_word
in_shifted w j k = ap (λ (x : ℕ). eqb (x % 2) 1) (shr-shr w j k)

in_low : (w : ℕ) → in_word w 0 ≡ eqb (w % 2) 1
unfolding in_word
in_low w = ap (λ (x : ℕ). eqb (x % 2) 1) (div-one w)

in_half : (w k : ℕ) → in_word w (suc k) ≡ in_word (w / 2) k
in_half w k = ap (in_word w) (sym (one-add k)) ∙ sym (in_shifted w 1 k)

-- of two words
min_bits : (x y : ℕ) → x < 2 → y < 2 → eqb (min x y) 1 ≡ eqb x 1 && eqb y 1
min_bits zero zero h l = refl
min_bits zero (suc zero) h l = refl
min_bits zero (suc (suc y)) h l = absurd (omega arith)
min_bits (suc zero) zero h l = refl
min_bits (suc zero) (suc zero) h l = refl
min_bits (suc zero) (suc (suc y)) h l = absurd (omega arith)
min_bits (suc (suc x)) y h l = absurd (omega arith)

and_low : (a b : ℕ) → eqb (bit_and a b % 2) 1 ≡ eqb (a % 2) 1 && eqb (b % 2) 1
and_low a b =
    let p : 0 < 2 = omega arith in
    let few : min (a % 2) (b % 2) < 2 = omega (arith, min-le_left (a % 2) (b % 2), mod-lt a p) in
    ap (λ (x : ℕ). eqb (x % 2) 1) (and_step a b)
    ∙ ap (λ (x : ℕ). eqb x 1) (digits_mod (bit_and (a / 2) (b / 2)) few)
    ∙ min_bits (a % 2) (b % 2) (mod-lt a p) (mod-lt b p)

pub in_both : (a b k : ℕ) → in_word (bit_and a b) k ≡ in_word a k && in_word b k
unfolding in_word
in_both a b k = ap (λ (x : ℕ). eqb (x % 2) 1) (and_shr a b k) ∙ and_low (a / 2 ^ k) (b / 2 ^ k)

max_bits : (x y : ℕ) → x < 2 → y < 2 → eqb (max x y) 1 ≡ eqb x 1 || eqb y 1
max_bits zero zero h l = refl
max_bits zero (suc zero) h l = refl
max_bits zero (suc (suc y)) h l = absurd (omega arith)
max_bits (suc zero) zero h l = refl
max_bits (suc zero) (suc zero) h l = refl
max_bits (suc zero) (suc (suc y)) h l = absurd (omega arith)
max_bits (suc (suc x)) y h l = absurd (omega arith)

or_low : (a b : ℕ) → eqb (bit_or a b % 2) 1 ≡ eqb (a % 2) 1 || eqb (b % 2) 1
or_low a b =
    let p : 0 < 2 = omega arith in
    let most : max (a % 2) (b % 2) ≤ 1 = max-le (omega (arith, mod-lt a p)) (omega (arith, mod-lt b p)) in
    let few : max (a % 2) (b % 2) < 2 = omega arith in
    ap (λ (x : ℕ). eqb (x % 2) 1) (or_step a b)
    ∙ ap (λ (x : ℕ). eqb x 1) (digits_mod (bit_or (a / 2) (b / 2)) few)
    ∙ max_bits (a % 2) (b % 2) (mod-lt a p) (mod-lt b p)

pub in_either : (a b k : ℕ) → in_word (bit_or a b) k ≡ in_word a k || in_word b k
unfolding in_word
in_either a b k = ap (λ (x : ℕ). eqb (x % 2) 1) (or_shr a b k) ∙ or_low (a / 2 ^ k) (b / 2 ^ k)

-- of a word with a bit more
pub in_first : (w b : ℕ) → b ≤ 1 → in_word (2 * w + b) 0 ≡ eqb b 1
in_first w b h =
    in_low (2 * w + b) ∙ ap (λ (x : ℕ). eqb x 1) (ap (λ (x : ℕ). (x + b) % 2) (mul_comm 2 w) ∙ digits_mod w (let l : b < 2 = omega arith in l))

pub in_later : (w b k : ℕ) → b ≤ 1 → in_word (2 * w + b) (suc k) ≡ in_word w k
in_later w b k h =
    in_half (2 * w + b) k
    ∙ ap (λ (x : ℕ). in_word x k) (ap (λ (x : ℕ). (x + b) / 2) (mul_comm 2 w) ∙ digits_div w (let l : b < 2 = omega arith in l))

-- of no bits, and of a power of two
pub in_none : (k : ℕ) → in_word 0 k ≡ false
unfolding in_word
in_none k = ap (λ (n : ℕ). eqb (n % 2) 1) (zero-div (2 ^ k))

pub in_power : (j k : ℕ) → in_word (2 ^ j) k ≡ eqb k j
in_power zero zero = in_low 1
in_power zero (suc k) = in_half 1 k ∙ in_none k ∙ sym (eqb-suc-zero k)
in_power (suc j) k =
    let twice : 2 ^ suc j ≡ 2 * 2 ^ j + 0 = omega (arith, pow-suc 2 j) in
    ap (λ (w : ℕ). in_word w k) twice ∙ doubled (in_power j) k
  where
    doubled : ((i : ℕ) → in_word (2 ^ j) i ≡ eqb i j) → (i : ℕ) → in_word (2 * 2 ^ j + 0) i ≡ eqb i (suc j)
    doubled is zero = in_first (2 ^ j) 0 (omega arith) ∙ sym (eqb-zero-suc j)
    doubled is (suc i) = in_later (2 ^ j) 0 i (omega arith) ∙ is i ∙ sym (eqb-suc-suc i j)

-- of the word of all bits
pub in_full : (k : ℕ) → k < 64 → in_word 18446744073709551615 k ≡ true
unfolding in_word
in_full k h = all_below_elim 64 (in_word 18446744073709551615) refl k h

-- before and at the first bit
zeros_none : (w : ℕ) → count_trailing_zeros 0 w ≡ 0
unfolding count_trailing_zeros
zeros_none w = refl

zeros_even : (n w : ℕ) → w % 2 ≡ 0 → count_trailing_zeros (suc n) w ≡ suc (count_trailing_zeros n (w / 2))
unfolding count_trailing_zeros
zeros_even n w e = rw e refl

zeros_odd : (n w : ℕ) → w % 2 ≡ 1 → count_trailing_zeros (suc n) w ≡ 0
unfolding count_trailing_zeros
zeros_odd n w e = rw e refl

even_or_odd {ℓ} : {X : Type ℓ} (w : ℕ) → (eqb (w % 2) 1 ≡ false → w % 2 ≡ 0 → X) → (eqb (w % 2) 1 ≡ true → w % 2 ≡ 1 → X) → X
even_or_odd w f g =
    split (eqb (w % 2) 1)
    (λ e. g e (eqb-true (w % 2) 1 e))
    (λ e.
    let d : w % 2 ≡ 1 → ⊥ = eqb-false (w % 2) 1 e in
    f e (split_le 1 (w % 2) (λ l. absurd (d (omega (arith, mod-lt w (let p : 0 < 2 = omega arith in p))))) (λ l. omega arith)))

pub none_before : (n w k : ℕ) → k < count_trailing_zeros n w → in_word w k ≡ false
none_before zero w k h = absurd (omega (arith, zeros_none w))
none_before (suc n) w zero h = even_or_odd w (λ e z. in_low w ∙ e) (λ e z. absurd (omega (arith, zeros_odd n w z)))
none_before (suc n) w (suc k) h =
    even_or_odd w
    (λ e z. in_half w k ∙ none_before n (w / 2) k (omega (arith, zeros_even n w z)))
    (λ e z. absurd (omega (arith, zeros_odd n w z)))

pub there_at : (n w : ℕ) → count_trailing_zeros n w < n → in_word w (count_trailing_zeros n w) ≡ true
there_at zero w h = absurd (not-suc-le-zero h)
there_at (suc n) w h =
    even_or_odd w
    (λ e z.
    let is = zeros_even n w z in
    ap (in_word w) is ∙ in_half w (count_trailing_zeros n (w / 2)) ∙ there_at n (w / 2) (omega (arith, is)))
    (λ e z. ap (in_word w) (zeros_odd n w z) ∙ in_low w ∙ e)

-- of words in a row
pub in_place : (words : List ℕ) (at p k : ℕ) → k < 64 → in_words words at (64 * p + k) ≡ in_word (get_or words (at + p) 0) k
unfolding in_words
in_place words at p k h =
    let n : 64 * p + k ≡ p * 64 + k = ap (λ (x : ℕ). x + k) (mul_comm 64 p) in
    ap (in_words words at) n
    ∙ ap₂ (λ (q r : ℕ). in_word (get_or words (at + q) 0) r) (digits_div p h) (digits_mod p h)

pub place_below : (a : ℕ) → a < 512 → a / 64 < 8
place_below a h = omega (arith, div-add-mod' a 64)

bit_below : (a : ℕ) → a % 64 < 64
bit_below a = mod-lt a (let p : 0 < 64 = omega arith in p)

-- of eight words each of which has the bits of two others
pub in_both_words : (rows words₀ words : List ℕ) (at : ℕ) → Kept rows at words₀ words → (a : ℕ) → a < 512
    → in_words words 0 a ≡ in_words rows at a && in_words words₀ 0 a
unfolding in_words
in_both_words rows words₀ words at kept a h =
    let q = a / 64 in
    ap (λ (p : ℕ). in_word (get_or words p 0) (a % 64)) (zero-add q)
    ∙ ap (λ (w : ℕ). in_word w (a % 64)) (kept q (place_below a h))
    ∙ in_both (get_or rows (at + q) 0) (get_or words₀ q 0) (a % 64)
    ∙ ap (λ (p : ℕ). in_word (get_or rows (at + q) 0) (a % 64) && in_word (get_or words₀ p 0) (a % 64)) (sym (zero-add q))

-- of eight words that are all full
pub in_full_words : (a : ℕ) → a < 512 → in_words (replicate 8 18446744073709551615) 0 a ≡ true
unfolding in_words
in_full_words a h =
    ap (λ (w : ℕ). in_word w (a % 64))
    (ap (λ (p : ℕ). get_or {A = ℕ} (replicate 8 18446744073709551615) p 0) (zero-add (a / 64))
    ∙ get_or-replicate {A = ℕ} 8 (a / 64) 18446744073709551615 0 (place_below a h))
    ∙ in_full (a % 64) (bit_below a)

-- of a row that stands as it stood
pub in_row_before : (rows rows₀ : List ℕ) (at end : ℕ) → ((i : ℕ) → i < end → get_or rows i 0 ≡ get_or rows₀ i 0) → at + 8 ≤ end → (a : ℕ) → a < 512
    → in_words rows at a ≡ in_words rows₀ at a
unfolding in_words
in_row_before rows rows₀ at end same l a h = ap (λ (w : ℕ). in_word w (a % 64)) (same (at + a / 64) (omega (arith, place_below a h)))

-- of a row, word by word
pub in_row : (rows : List ℕ) (at : ℕ) (f : ℕ → Bool) (actions : ℕ) → ((p k : ℕ) → k < 64 → 64 * p + k < actions → in_word (get_or rows (at + p) 0) k ≡ f (64 * p + k))
    → (a : ℕ) → a < actions → in_words rows at a ≡ f a
unfolding in_words
in_row rows at f actions has a h =
    let is : 64 * (a / 64) + a % 64 ≡ a = ap (λ (x : ℕ). x + a % 64) (mul_comm 64 (a / 64)) ∙ div-add-mod' a 64 in
    has (a / 64) (a % 64) (bit_below a) (omega (arith, is)) ∙ ap f is

-- of words that are all empty
pub in_empty_words : (words : List ℕ) (at k : ℕ) → ((i : ℕ) → get_or words i 0 ≡ 0) → in_words words at k ≡ false
unfolding in_words
in_empty_words words at k none = ap (λ (w : ℕ). in_word w (k % 64)) (none (at + k / 64)) ∙ in_none (k % 64)

-- of a word with the bit of a number, and of that in its place
with_bit : (word k j : ℕ) → in_word (bit_or word (1 * 2 ^ (k % 64) % 2 ^ 64)) (j % 64) ≡ in_word word (j % 64) || eqb (j % 64) (k % 64)
with_bit word k j =
    let is : 1 * 2 ^ (k % 64) % 2 ^ 64 ≡ 2 ^ (k % 64) = shl_exact 1 (k % 64) 64 (omega arith) (omega (arith, bit_below k)) ∙ one-mul (2 ^ (k % 64)) in
    ap (λ (w : ℕ). in_word (bit_or word w) (j % 64)) is
    ∙ in_either word (2 ^ (k % 64)) (j % 64)
    ∙ ap (λ (b : Bool). in_word word (j % 64) || b) (in_power (k % 64) (j % 64))

same_bit : (j k : ℕ) → j / 64 ≡ k / 64 → eqb (j % 64) (k % 64) ≡ eqb j k
same_bit j k e =
    split (eqb j k)
    (λ q. eq-eqb (j % 64) (k % 64) (ap (λ (n : ℕ). n % 64) (eqb-true j k q)) ∙ sym q)
    (λ q. ne_eqb (j % 64) (k % 64) (λ r. eqb-false j k q (omega (arith, div-add-mod' j 64, div-add-mod' k 64, e, r))) ∙ sym q)

pub in_words_with : (words : List ℕ) (at k : ℕ) → at + k / 64 < length words → (j : ℕ)
    → in_words (set words (at + k / 64) (bit_or (get_or words (at + k / 64) 0) (1 * 2 ^ (k % 64) % 2 ^ 64))) at j ≡ in_words words at j || eqb j k
unfolding in_words
in_words_with words at k h j =
    let place = at + k / 64 in
    let word = bit_or (get_or words place 0) (1 * 2 ^ (k % 64) % 2 ^ 64) in
    split (eqb (j / 64) (k / 64))
    (λ e.
    let here : j / 64 ≡ k / 64 = eqb-true (j / 64) (k / 64) e in
    ap (λ (p : ℕ). in_word (get_or (set words place word) (at + p) 0) (j % 64)) here
    ∙ ap (λ (w : ℕ). in_word w (j % 64)) (get_or-set_same words place word 0 h)
    ∙ with_bit (get_or words place 0) k j
    ∙ ap₂ (λ (p : ℕ) (b : Bool). in_word (get_or words (at + p) 0) (j % 64) || b) (sym here) (same_bit j k here))
    (λ e.
    let apart : j / 64 ≡ k / 64 → ⊥ = eqb-false (j / 64) (k / 64) e in
    let other : eqb j k ≡ false = ne_eqb j k (λ q. apart (ap (λ (n : ℕ). n / 64) q)) in
    ap (λ (w : ℕ). in_word w (j % 64)) (get_or-set_other words place (at + j / 64) word 0 (λ q. apart (omega arith)))
    ∙ sym (or-false (in_words words at j))
    ∙ ap (λ (b : Bool). in_words words at j || b) (sym other))

-- of rows of eight words, where a number was added to one of them
pub in_rows_with : (rows₀ rows : List ℕ) (a k : ℕ) → Added (8 * a) k rows₀ rows → k < 512 → (i j : ℕ) → j < 512
    → in_words rows (8 * i) j ≡ in_words rows₀ (8 * i) j || (eqb i a && eqb j k)
unfolding in_words
in_rows_with rows₀ rows a k added few i j h =
    split (eqb i a)
    (λ e. rw (eqb-true i a e, eq-eqb a a refl) (added.has j))
    (λ e.
    let apart : i ≡ a → ⊥ = eqb-false i a e in
    let other : 8 * i + j / 64 ≡ 8 * a + k / 64 → ⊥ = λ q. apart (omega (arith, place_below j h, place_below k few)) in
    rw e (ap (λ (w : ℕ). in_word w (j % 64)) (added.others (8 * i + j / 64) other) ∙ sym (or-false (in_words rows₀ (8 * i) j))))
