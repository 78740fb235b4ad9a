-- How numbers are read, from the code's own tests: digit by digit, as far as a number is told from larger ones, then with
-- their separators.
use Prim.Native.Nat.{ℕ, suc, ◌+◌, ◌-◌, ◌*◌, ◌≤◌, ◌<◌}
use mathlib.Core.Path.{◌≡◌, refl, sym, ap, ap₂, subst, ◌∙◌}
use mathlib.Core.Bool.{true, false}
use mathlib.Core.List.{List, [], ◌∷◌}
use native.Mathlib.Nat.{add-zero}
use native.Mathlib.Omega.{arith}
use lib.Dec.{eqb, leb}
use lib.ListN.{length, get_or, take, drop, length-drop, get_or-eq_default}
use lib.Seq.{drop-drop, get_or-drop}
use borrow.Author.Tests.{eq-eqb, le-leb, lt-leb, eqb-true}
use Rattle.files.proofs.Guards.{is_done_lem, is_refused, guard_passes, guard_refuses}
use Rattle.files.proofs.Logic.{split, split_le, cond_case}
use Rattle.files.specs.Outcome.{Outcome, refusal}
use Rattle.digits.specs.Decimal.{ascii, number_from, number_of}
use Rattle.translator.specs.Cursors.{Cursor}
use Rattle.translator.specs.declared.fields.Found.{Found}
use Rattle.translator.specs.Cursors.{ReadNumber}
use Rattle.translator.specs.Clauses.{capped, digits_found, numeral_found, with_number, number_after, signed_after}
use Rattle.translator.specs.Fields.{word, number, byte_at, is_digit, digits_length, numeral_length, numeral_at, is_minus, minus_one, signed_at, field_at, field_length, numeral_value, field_value}
use Rattle.translator.specs.Format.{cursor_at, is_open, cursor_by, field_after}
use Rattle.translator.specs.Sas.{Separator, byte_of}
use Rattle.translator.proofs.CursorLaws.{rest_none, rest_more, field_cursor_by}
use Rattle.translator.proofs.NumberLaws.{numeral_within}

-- capping
pub capped_small : (n : ℕ) → n ≤ 1048576 → n ≡ capped n
unfolding capped
capped_small n h = rw (le-leb n 1048576 h) refl

pub capped_large : (n : ℕ) → 1048576 < n → 1048576 ≡ capped n
unfolding capped
capped_large n h = rw (lt-leb n 1048576 h) refl

pub capped_most : (n : ℕ) → capped n ≤ 1048576
capped_most n = split_le n 1048576 (λ h. omega (arith, capped_small n h)) (λ h. omega (arith, capped_large n h))

-- to cap at each digit is to cap the number
digit_capped : (n d : ℕ) → capped (10 * capped n + d) ≡ capped (10 * n + d)
digit_capped n d =
    split_le n 1048576
    (λ h. ap (λ (k : ℕ). capped (10 * k + d)) (sym (capped_small n h)))
    (λ h.
    let c : 1048576 ≡ capped n = capped_large n h in
    sym (capped_large (10 * capped n + d) (omega arith)) ∙ capped_large (10 * n + d) (omega arith))

from_capped : (n : ℕ) (ds : List ℕ) → capped (number_from (capped n) ds) ≡ capped (number_from n ds)
unfolding number_from
from_capped n [] = sym (capped_small (capped n) (capped_most n))
from_capped n (d ∷ ds) =
    sym (from_capped (10 * capped n + (d - 48)) ds)
    ∙ ap (λ (k : ℕ). capped (number_from k ds)) (digit_capped n (d - 48))
    ∙ from_capped (10 * n + (d - 48)) ds

-- the digits at the front
abbrev pub digits_in : List ℕ → List ℕ
digits_in r = take (digits_length r) r

digits_none : (s : List ℕ) (here : ℕ) → length s ≤ here → digits_length (drop here s) ≡ 0
unfolding digits_length
digits_none s here h = rw (rest_none s here h) refl

digits_other : (s : List ℕ) (here : ℕ) → here < length s → is_digit (get_or s here 0) ≡ false → digits_length (drop here s) ≡ 0
unfolding digits_length
digits_other s here h e = rw (rest_more s here h, e) refl

pub below_digits : (b : ℕ) → b < 48 → is_digit b ≡ false
unfolding is_digit
below_digits b h = rw (lt-leb 48 b h) refl

pub above_digits : (b : ℕ) → 57 < b → is_digit b ≡ false
unfolding is_digit
above_digits b h = split (leb 48 b) (λ e. rw (e, lt-leb b 57 h) refl) (λ e. rw e refl)

module _ (s : List ℕ) (here : ℕ) (h : here < length s) (e : is_digit (get_or s here 0) ≡ true) where
  digits_more : digits_length (drop here s) ≡ suc (digits_length (drop (here + 1) s))
  unfolding digits_length
  digits_more = rw (rest_more s here h, e) (omega arith)

  digits_in_more : digits_in (drop here s) ≡ get_or s here 0 ∷ digits_in (drop (here + 1) s)
  digits_in_more = ap₂ (λ (n : ℕ) (l : List ℕ). take n l) digits_more (rest_more s here h)

-- the loop over them
abbrev pub DigitsFrom : List ℕ → ℕ → ℕ → ℕ → Type 0
DigitsFrom s at value here =
    (here + digits_length (drop here s) ≡ at + digits_length (drop at s))
    × (capped (number_from value (digits_in (drop here s))) ≡ capped (number_of (digits_in (drop at s))))
    × (value ≤ 1048576)
    × (at ≤ here)
    × (here ≤ length s)

pub digits_start : (s : List ℕ) (at : ℕ) → at ≤ length s → DigitsFrom s at 0 at
unfolding number_of
digits_start s at h = (refl, refl, omega arith, omega arith, h)

module _ (s : List ℕ) (at value here : ℕ) (inv : DigitsFrom s at value here) where
  ended_here : digits_length (drop here s) ≡ 0 → record { count = here - at; value = value } ≡ digits_found (drop at s)
  unfolding digits_found number_from
  ended_here e =
      let none : digits_in (drop here s) ≡ [] = ap (λ (n : ℕ). take n (drop here s)) e in
      let count : here - at ≡ digits_length (drop at s) = omega (arith, inv.0) in
      let is : value ≡ capped (number_of (digits_in (drop at s))) = capped_small value inv.2 ∙ sym (ap (λ (l : List ℕ). capped (number_from value l)) none) ∙ inv.1 in
      λ i. record { count = count i; value = is i }

  pub digits_end : length s ≤ here → record { count = here - at; value = value } ≡ digits_found (drop at s)
  digits_end h = ended_here (digits_none s here h)

  pub digits_stop : here < length s → is_digit (get_or s here 0) ≡ false → record { count = here - at; value = value } ≡ digits_found (drop at s)
  digits_stop h e = ended_here (digits_other s here h e)

  pub digits_next : (next : ℕ) → here < length s → is_digit (get_or s here 0) ≡ true → next ≡ capped (10 * value + (get_or s here 0 - 48)) → DigitsFrom s at next (here + 1)
  unfolding number_from
  digits_next next h e n = (
    omega (arith, inv.0, digits_more s here h e),
    ap (λ (k : ℕ). capped (number_from k (digits_in (drop (here + 1) s)))) n
        ∙ from_capped (10 * value + (get_or s here 0 - 48)) (digits_in (drop (here + 1) s))
        ∙ sym (ap (λ (l : List ℕ). capped (number_from value l)) (digits_in_more s here h e))
        ∙ inv.1,
    omega (arith, n, capped_most (10 * value + (get_or s here 0 - 48))),
    omega (arith, inv.3),
    omega arith,
  )

-- a number at the front
pub first_byte : (s : List ℕ) (at : ℕ) → get_or (drop at s) 0 0 ≡ get_or s at 0
first_byte s at = get_or-drop at s 0 0 ∙ ap (λ (n : ℕ). get_or s n 0) (add-zero at)

pub numeral_zero : (s : List ℕ) (at : ℕ) → true ≡ eqb (get_or (drop at s) 0 0) 48 → record { count = 1; value = 0 } ≡ numeral_found (drop at s)
unfolding numeral_found numeral_length numeral_value number_of number_from
numeral_zero s at z =
    let r : List ℕ = drop at s in
    let first : get_or r 0 0 ≡ 48 = eqb-true (get_or r 0 0) 48 (sym z) in
    let here : get_or s at 0 ≡ 48 = sym (first_byte s at) ∙ first in
    let there : at < length s = split_le (length s) at (λ h. absurd (let y : get_or s at 0 ≡ 0 = get_or-eq_default s 0 h in omega arith)) (λ h. h) in
    let one : numeral_length r ≡ 1 = rw (eq-eqb (get_or r 0 0) 48 first) refl in
    let digit : take 1 r ≡ 48 ∷ [] = ap (take 1) (rest_more s at there) ∙ ap (λ (x : ℕ). x ∷ []) here in
    let is : 0 ≡ capped (numeral_value r) = capped_small 0 (omega arith) ∙ ap capped (sym (ap (λ (n : ℕ). number_of (take n r)) one ∙ ap number_of digit)) in
    λ i. record { count = sym one i; value = is i }

pub numeral_digits : (s : List ℕ) (at : ℕ) (r : Found) → false ≡ eqb (get_or (drop at s) 0 0) 48 → r ≡ digits_found (drop at s) → r ≡ numeral_found (drop at s)
unfolding numeral_found digits_found numeral_length numeral_value
numeral_digits s at r d q = rw (sym d) q

pub numeral_count : (r : List ℕ) (found : Found) → found ≡ numeral_found r → found.count ≡ numeral_length r
unfolding numeral_found
numeral_count r found e = ap (λ (x : Found). x.count) e

pub numeral_reaches : (s : List ℕ) (at count : ℕ) → at ≤ length s → count ≡ numeral_length (drop at s) → at + count ≤ length s
numeral_reaches s at count h e = omega (arith, numeral_within (drop at s), length-drop at s)

-- with its separator
pub numeral_missing : (separator : ℕ) (s : List ℕ) (at count : ℕ) (r : Outcome) → count ≡ numeral_length (drop at s) → count < 1 → r ≡ refusal 31 at → r ≡ numeral_at separator (drop at s) at
unfolding numeral_at
numeral_missing separator s at count r e h q = guard_refuses _ 31 at _ r (lt-leb 1 (numeral_length (drop at s)) (omega arith)) q

pub numeral_ended : (separator : ℕ) (s : List ℕ) (at count : ℕ) (r : Outcome) → count ≡ numeral_length (drop at s) → 1 ≤ count → r ≡ byte_at separator (drop (at + count) s) (at + count) → r ≡ numeral_at separator (drop at s) at
unfolding numeral_at
numeral_ended separator s at count r e h q =
    let further : drop (numeral_length (drop at s)) (drop at s) ≡ drop (at + count) s = drop-drop (numeral_length (drop at s)) at s ∙ ap (λ (n : ℕ). drop (at + n) s) (sym e) in
    guard_passes _ 31 at _ r (le-leb 1 (numeral_length (drop at s)) (omega arith))
    (q ∙ ap₂ (byte_at separator) (sym further) (ap (λ (n : ℕ). at + n) e))

-- up to a cursor
pub with_number_open : (c : Cursor) (value : ℕ) → c.outcome.number ≡ 0 → record { cursor = c; value = value } ≡ with_number c value
unfolding with_number is_open
with_number_open c value z = rw (is_done_lem c.outcome z) refl

pub with_number_refused : (c : Cursor) (value : ℕ) → (c.outcome.number ≡ 0 → ⊥) → record { cursor = c; value = 0 } ≡ with_number c value
unfolding with_number is_open
with_number_refused c value d = rw (is_refused c.outcome d) refl

pub number_read : (separator : Separator) (s : List ℕ) (at : ℕ) (r : ReadNumber) (found : Found) (o : Outcome) (moved : Cursor) → found ≡ numeral_found (drop at s) → o ≡ numeral_at (byte_of separator) (drop at s) at
    → moved ≡ cursor_by o (at + (found.count + 1)) → r ≡ with_number moved found.value → r ≡ number_after separator s (cursor_at at)
unfolding number_after numeral_found field_at field_length field_value
number_read separator s at r found o moved f e m q =
    let ends : at + (found.count + 1) ≡ at + (numeral_length (drop at s) + 1) = ap (λ (x : Found). at + (x.count + 1)) f in
    q ∙ ap₂ with_number (m ∙ ap₂ cursor_by e ends ∙ field_cursor_by (number separator) s (cursor_at at) refl) (ap (λ (x : Found). x.value) f)

pub number_small : (separator : Separator) (s : List ℕ) (c : Cursor) (r : ReadNumber) → r ≡ number_after separator s c → r.value ≤ 1048576
unfolding number_after with_number
number_small separator s c r e =
    subst (λ (x : ReadNumber). x.value ≤ 1048576) (sym e)
    (cond_case (λ (n : ℕ). n ≤ 1048576) (is_open (field_after (number separator) s c)) _ 0 (λ o. capped_most _) (λ o. omega arith))

pub signed_number : (separator : Separator) (s : List ℕ) (c : Cursor) (r : ReadNumber) → false ≡ eqb (get_or (drop c.at s) 0 0) 45 → r ≡ number_after separator s c → r ≡ signed_after separator s c
unfolding number_after signed_after field_after field_at field_length field_value signed_at is_minus
signed_number separator s c r d q = rw (sym d) q

pub signed_minus : (separator : Separator) (s : List ℕ) (c w : Cursor) (r : ReadNumber) → true ≡ eqb (get_or (drop c.at s) 0 0) 45 → w ≡ field_after (word (45 ∷ 49 ∷ byte_of separator ∷ [])) s c → r ≡ with_number w 1048577
    → r ≡ signed_after separator s c
unfolding signed_after field_after field_at field_length field_value signed_at is_minus minus_one ascii
signed_minus separator s c w r z e q = rw (sym z) (q ∙ ap (λ (x : Cursor). with_number x 1048577) e)
