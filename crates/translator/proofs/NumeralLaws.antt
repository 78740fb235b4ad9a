-- Laws of numbers in decimal without spare zeros: which digits they are, and that these and no others state the number.
use Prim.Native.Nat.{ℕ, zero, suc, ◌+◌, ◌-◌, ◌*◌, ◌/◌, ◌%◌, ◌^◌, ◌≤◌, ◌<◌}
use mathlib.Core.Path.{◌≡◌, refl, sym, ap, subst, ◌∙◌}
use mathlib.Core.Bool.{true}
use mathlib.Core.List.{List, [], ◌∷◌, ◌++◌, append_assoc, append-nil}
use native.Mathlib.Nat.{pow-suc}
use native.Mathlib.Omega.{arith}
use lib.ListN.{length, get_or}
use borrow.Author.Tests.{le-leb, leb-true}
use Rattle.files.specs.Below.{all_of}
use Rattle.files.proofs.Logic.{and_join, and_split, split_le}
use Rattle.digits.specs.Decimal.{digits, number_from, number_of}
use Rattle.digits.proofs.DecimalLaws.{AreDigits, digits_last, digits_more, digits_fuel, some_digits, digits_are, digits_leading, digits_read}
use Rattle.translator.specs.Fields.{is_digit}
use Rattle.translator.specs.Sas.{numeral}

-- digits alone, at least one, the first 0 only where it is alone
pub record Plain (ds : List ℕ) : Type 0 where
  pub digits : all_of is_digit ds ≡ true
  pub some : 0 < length ds
  pub leading : get_or ds 0 0 ≡ 48 → length ds ≡ 1

digit_between : (b : ℕ) → is_digit b ≡ true → (48 ≤ b) × (b ≤ 57)
unfolding is_digit
digit_between b e = let both = and_split _ _ e in (leb-true 48 b both.0, leb-true b 57 both.1)

pub between_digit : (b : ℕ) → 48 ≤ b → b ≤ 57 → is_digit b ≡ true
unfolding is_digit
between_digit b h k = and_join (le-leb 48 b h) (le-leb b 57 k)

pub plain_first : (ds : List ℕ) → Plain ds → 48 ≤ get_or ds 0 0
plain_first [] plain = absurd (omega (arith, plain.some))
plain_first (d ∷ ds) plain = (digit_between d (and_split (is_digit d) (all_of is_digit ds) plain.digits).0).0

all_digits : (ds : List ℕ) → AreDigits ds → all_of is_digit ds ≡ true
all_digits [] are = refl
all_digits (d ∷ ds) are =
    let first = are 0 (omega arith) in
    and_join (between_digit d first.0 first.1) (all_digits ds (λ i h. are (suc i) (omega (arith, h))))

-- enough digits for any number
below_power : (c n : ℕ) → n ≤ c → n < 10 ^ suc c
below_power zero n h = omega (arith, h)
below_power (suc c) n h = omega (arith, h, below_power c c (omega arith), pow-suc 10 (suc c))

numeral_fuel : (n : ℕ) → numeral n ≡ digits (suc n) n
unfolding numeral
numeral_fuel n = ap (λ (c : ℕ). digits c n) (omega arith)

pub numeral_reads : (n : ℕ) → number_of (numeral n) ≡ n
unfolding number_of
numeral_reads n = ap (number_from 0) (numeral_fuel n) ∙ digits_read n n (below_power n n (omega arith))

pub numeral_one : (n : ℕ) → n < 10 → numeral n ≡ (48 + n) ∷ []
numeral_one n h = numeral_fuel n ∙ digits_last n n h

pub numeral_plain : (n : ℕ) → Plain (numeral n)
numeral_plain n =
    subst Plain (sym (numeral_fuel n))
    (record {
      digits = all_digits (digits (suc n) n) (digits_are (suc n) n);
      some = some_digits n n;
      leading = leading;
    })
  where
    leading : get_or (digits (suc n) n) 0 0 ≡ 48 → length (digits (suc n) n) ≡ 1
    leading e =
        split_le n 0
        (λ h. ap length (digits_last n n (omega (arith, h))))
        (λ h. absurd (omega (arith, e, digits_leading n n h (below_power n n (omega arith)))))

-- one digit more
numeral_more : (n d : ℕ) → 0 < n → d < 10 → numeral (10 * n + d) ≡ numeral n ++ ((48 + d) ∷ [])
numeral_more n d p h =
    numeral_fuel (10 * n + d)
    ∙ digits_more (10 * n + d) (10 * n + d) (omega arith)
    ∙ front
    ∙ ap (λ (ds : List ℕ). ds ++ ((48 + d) ∷ [])) (sym (numeral_fuel n))
  where
    tenth : (10 * n + d) / 10 ≡ n
    tenth = omega (arith, h)

    last : (10 * n + d) % 10 ≡ d
    last = omega (arith, h)

    front : digits (10 * n + d) ((10 * n + d) / 10) ++ ((48 + (10 * n + d) % 10) ∷ []) ≡ digits (suc n) n ++ ((48 + d) ∷ [])
    front =
        let count : 10 * n + d ≡ suc (10 * n + d - 1) = omega (arith, p) in
        rw (tenth, last)
        (ap (λ (ds : List ℕ). ds ++ ((48 + d) ∷ []))
        (ap (λ (c : ℕ). digits c n) count
        ∙ digits_fuel (10 * n + d - 1) n n (below_power (10 * n + d - 1) n (omega (arith, p))) (below_power n n (omega arith))))

numeral_from : (n : ℕ) (ds : List ℕ) → 0 < n → all_of is_digit ds ≡ true → numeral (number_from n ds) ≡ numeral n ++ ds
unfolding number_from
numeral_from n [] p all = sym (append-nil (numeral n))
numeral_from n (d ∷ ds) p all =
    let both = and_split (is_digit d) (all_of is_digit ds) all in
    let digit = digit_between d both.0 in
    let same : 48 + (d - 48) ≡ d = omega (arith, digit.0) in
    numeral_from (10 * n + (d - 48)) ds (omega (arith, p)) both.1
    ∙ ap (λ (r : List ℕ). r ++ ds) (numeral_more n (d - 48) p (omega (arith, digit.1)) ∙ ap (λ (x : ℕ). numeral n ++ (x ∷ [])) same)
    ∙ append_assoc (numeral n) (d ∷ []) ds

-- no other digits state the number
pub numeral_only : (ds : List ℕ) → Plain ds → numeral (number_of ds) ≡ ds
unfolding number_of number_from
numeral_only [] plain = absurd (omega (arith, plain.some))
numeral_only (d ∷ ds) plain =
    let both = and_split (is_digit d) (all_of is_digit ds) plain.digits in
    let digit = digit_between d both.0 in
    let same : 48 + (d - 48) ≡ d = omega (arith, digit.0) in
    let first : numeral (d - 48) ≡ d ∷ [] = numeral_one (d - 48) (omega (arith, digit.1)) ∙ ap (λ (x : ℕ). x ∷ []) same in
    ap (λ (n : ℕ). numeral (number_from n ds)) (omega arith)
    ∙ split_le d 48
    (λ h. alone d ds (plain.leading (omega (arith, h, digit.0))) first)
    (λ h. numeral_from (d - 48) ds (omega (arith, h)) both.1 ∙ ap (λ (r : List ℕ). r ++ ds) first)
  where
    alone : (d : ℕ) (ds : List ℕ) → suc (length ds) ≡ 1 → numeral (d - 48) ≡ d ∷ [] → numeral (number_from (d - 48) ds) ≡ d ∷ ds
    alone d [] l e = e
    alone d (x ∷ ds) l e = absurd (omega (arith, l))
