-- Laws of decimal digits: one digit more, how many there are, and what they state.
use Prim.Native.Nat.{ℕ, zero, suc, ◌+◌, ◌-◌, ◌*◌, ◌/◌, ◌%◌, ◌^◌, ◌≤◌, ◌<◌}
use mathlib.Core.Path.{◌≡◌, refl, sym, ap, subst, ◌∙◌}
use mathlib.Core.Bool.{Bool, true, false}
use mathlib.Core.List.{List, [], ◌∷◌, ◌++◌}
use native.Mathlib.Nat.{pow-suc}
use native.Mathlib.Omega.{arith}
use lib.Dec.{ltb}
use lib.ListN.{length, get_or, replicate, length-append, length-replicate, get_or-append}
use lib.Seq.{get_or-append_seam}
use borrow.Author.Tests.{lt-ltb, le-ltb, ltb-true, ltb-false}
use Rattle.digits.specs.Decimal.{digits, decimal, column, number_from, number_of}
use Rattle.digits.specs.Reads.{DecimalReads}

split_below {ℓ} : {X : Type ℓ} (m n : ℕ) → (m < n → X) → (n ≤ m → X) → X
split_below {X} m n f g = by (ltb m n) refl
  where
    by : (b : Bool) → ltb m n ≡ b → X
    by true e = f (ltb-true m n e)
    by false e = g (ltb-false m n e)

pub digits_last : (c n : ℕ) → n < 10 → digits (suc c) n ≡ (48 + n) ∷ []
unfolding digits
digits_last c n h =
    let e : n % 10 ≡ n = omega arith in
    rw (lt-ltb n 10 h, e) refl

pub digits_more : (c n : ℕ) → 10 ≤ n → digits (suc c) n ≡ digits c (n / 10) ++ ((48 + n % 10) ∷ [])
unfolding digits
digits_more c n h = rw (le-ltb n 10 h) refl

-- the number without its last digit
tenth : (c n : ℕ) → n < 10 ^ suc c → n / 10 < 10 ^ c
tenth c n h =
    let e : 10 ^ suc c ≡ 10 ^ c * 10 = pow-suc 10 c in
    omega (arith, e, h)

not_below_one : (n : ℕ) → 10 ≤ n → n < 10 ^ 1 → ⊥
not_below_one n h k = omega (arith, h, k)

-- any count of digits that is large enough gives the same
pub digits_fuel : (c d n : ℕ) → n < 10 ^ suc c → n < 10 ^ suc d → digits (suc c) n ≡ digits (suc d) n
digits_fuel zero d n h k = digits_last zero n (omega (arith, h)) ∙ sym (digits_last d n (omega (arith, h)))
digits_fuel (suc c) zero n h k = digits_last (suc c) n (omega (arith, k)) ∙ sym (digits_last zero n (omega (arith, k)))
digits_fuel (suc c) (suc d) n h k =
    split_below n 10
    (λ l. digits_last (suc c) n l ∙ sym (digits_last (suc d) n l))
    (λ l.
    digits_more (suc c) n l
    ∙ ap (λ (r : List ℕ). r ++ ((48 + n % 10) ∷ [])) (digits_fuel c d (n / 10) (tenth (suc c) n h) (tenth (suc d) n k))
    ∙ sym (digits_more (suc d) n l))

length_snoc : (xs : List ℕ) (x : ℕ) → length (xs ++ (x ∷ [])) ≡ length xs + 1
length_snoc xs x = length-append xs (x ∷ [])

pub digits_length_lem : (c n : ℕ) → length (digits c n) ≤ c
unfolding digits
digits_length_lem zero n = omega arith
digits_length_lem (suc c) n =
    split_below n 10
    (λ l. rw (digits_last c n l) (omega arith))
    (λ l. let h : length (digits c (n / 10)) ≤ c = digits_length_lem c (n / 10) in rw (digits_more c n l) (omega (arith, h, length_snoc (digits c (n / 10)) (48 + n % 10))))

-- the count of digits is that of a smaller bound too
pub digits_few : (c k n : ℕ) → 0 < k → n < 10 ^ k → length (digits c n) ≤ k
unfolding digits
digits_few zero k n p h = omega arith
digits_few (suc c) zero n p h = absurd (omega arith)
digits_few (suc c) (suc k) n p h =
    split_below n 10
    (λ l. rw (digits_last c n l) (omega arith))
    (λ l.
    let more : 0 < k = split_below 0 k (λ m. m) (λ z. let e : k ≡ 0 = omega arith in absurd (not_below_one n l (subst (λ (x : ℕ). n < 10 ^ suc x) e h))) in
    let few : length (digits c (n / 10)) ≤ k = digits_few c k (n / 10) more (tenth k n h) in
    rw (digits_more c n l) (omega (arith, few, length_snoc (digits c (n / 10)) (48 + n % 10))))

pub decimal_few : (n k : ℕ) → 0 < k → n < 10 ^ k → length (decimal n) ≤ k
unfolding decimal
decimal_few n k p h = digits_few 20 k n p h

pub some_digits : (c n : ℕ) → 0 < length (digits (suc c) n)
some_digits c n =
    split_below n 10
    (λ l. rw (digits_last c n l) (omega arith))
    (λ l. rw (digits_more c n l) (omega (arith, length_snoc (digits c (n / 10)) (48 + n % 10))))

-- the byte of a digit
abbrev pub IsDigit : ℕ → Type 0
IsDigit d = (48 ≤ d) × (d ≤ 57)

-- every entry of a list is a digit
abbrev pub AreDigits : List ℕ → Type 0
AreDigits xs = (i : ℕ) → i < length xs → IsDigit (get_or xs i 0)

snoc_digits : (xs : List ℕ) (x : ℕ) → AreDigits xs → IsDigit x → AreDigits (xs ++ (x ∷ []))
snoc_digits xs x before now i h =
    split_below i (length xs)
    (λ l. subst IsDigit (sym (get_or-append xs (x ∷ []) 0 i l)) (before i l))
    (λ l.
    let e : i ≡ length xs = omega (arith, h, length_snoc xs x) in
    subst IsDigit (sym (ap (λ (j : ℕ). get_or (xs ++ (x ∷ [])) j 0) e ∙ get_or-append_seam xs x [] 0)) now)

pub digits_are : (c n : ℕ) → AreDigits (digits c n)
unfolding digits
digits_are zero n = λ i h. absurd (omega arith)
digits_are (suc c) n =
    split_below n 10
    (λ l. subst AreDigits (sym (digits_last c n l)) (snoc_digits [] (48 + n) (λ i h. absurd (omega arith)) (omega arith, omega arith)))
    (λ l. subst AreDigits (sym (digits_more c n l)) (snoc_digits (digits c (n / 10)) (48 + n % 10) (digits_are c (n / 10)) (omega arith, omega arith)))

pub decimal_are : (n : ℕ) → AreDigits (decimal n)
unfolding decimal
decimal_are n = digits_are 20 n

-- the first digit is 0 in 0 alone
pub digits_leading : (c n : ℕ) → 0 < n → n < 10 ^ suc c → 48 < get_or (digits (suc c) n) 0 0
digits_leading zero n p h = rw (digits_last zero n (omega (arith, h))) (omega arith)
digits_leading (suc c) n p h =
    split_below n 10
    (λ l. rw (digits_last (suc c) n l) (omega arith))
    (λ l.
    subst (λ (d : ℕ). 48 < d)
    (sym (ap (λ (xs : List ℕ). get_or xs 0 0) (digits_more (suc c) n l) ∙ get_or-append (digits (suc c) (n / 10)) ((48 + n % 10) ∷ []) 0 0 (some_digits c (n / 10))))
    (digits_leading c (n / 10) (omega arith) (tenth (suc c) n h)))

-- one digit more behind a number that is read
number_snoc : (a : ℕ) (xs : List ℕ) (d : ℕ) → number_from a (xs ++ (d ∷ [])) ≡ 10 * number_from a xs + (d - 48)
unfolding number_from
number_snoc a [] d = refl
number_snoc a (x ∷ xs) d = number_snoc (10 * a + (x - 48)) xs d

pub digits_read : (c n : ℕ) → n < 10 ^ suc c → number_from 0 (digits (suc c) n) ≡ n
unfolding number_from
digits_read zero n h = ap (number_from 0) (digits_last zero n (omega (arith, h))) ∙ omega arith
digits_read (suc c) n h =
    split_below n 10
    (λ l. ap (number_from 0) (digits_last (suc c) n l) ∙ omega arith)
    (λ l.
    let front : number_from 0 (digits (suc c) (n / 10)) ≡ n / 10 = digits_read c (n / 10) (tenth (suc c) n h) in
    ap (number_from 0) (digits_more (suc c) n l) ∙ number_snoc 0 (digits (suc c) (n / 10)) (48 + n % 10) ∙ omega (arith, front))

below_digits : (n : ℕ) → n < 2 ^ 64 → n < 10 ^ 20
below_digits n h = omega (arith, h)

pub decimal_reads : (n : ℕ) → n < 2 ^ 64 → DecimalReads n
unfolding decimal number_of
decimal_reads n h =
    record {
      reads = digits_read 19 n (below_digits n h);
      digits = decimal_are n;
      some = some_digits 19 n;
      leading = λ p. digits_leading 19 n p (below_digits n h);
      few = decimal_few n;
    }

-- a number that is not wider than its column
pub column_length : (width n : ℕ) → length (decimal n) ≤ width → length (column width n) ≡ width
unfolding column
column_length width n h = omega (arith, length-append (replicate (width - length (decimal n)) 32) (decimal n), length-replicate {A = ℕ} (width - length (decimal n)) 32, h)
