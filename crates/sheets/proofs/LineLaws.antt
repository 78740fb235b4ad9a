-- The lines of a sheet: how long they are, what characters they have, and how they are written.
use Prim.Native.Nat.{ℕ, zero, suc, ◌+◌, ◌-◌, ◌^◌, ◌≤◌, ◌<◌}
use mathlib.Core.Path.{◌≡◌, refl, sym, ap, ◌∙◌}
use mathlib.Core.Bool.{true}
use mathlib.Core.List.{List, [], ◌∷◌, ◌++◌}
use native.Mathlib.Numerals.{add-one}
use native.Mathlib.Omega.{arith}
use lib.Dec.{eqb}
use lib.ListN.{length, get_or, set, replicate, length-append, length-replicate, get_or-replicate, get_or-append}
use lib.Seq.{sets, get_or-append-add, get_or-append_seam}
use borrow.Author.Tests.{le-leb}
use borrow.Rule.Slice.PartMut.{put_mid}
use Rattle.files.specs.Below.{any_of}
use Rattle.files.specs.Bytes.{placed}
use Rattle.files.proofs.Logic.{and_join, or_left, or_right, split_le}
use Rattle.files.proofs.Placed.{placed_then}
use Rattle.digits.specs.Decimal.{ascii, decimal, column}
use Rattle.digits.proofs.PutLaws.{part_set}
use Rattle.digits.proofs.DecimalLaws.{decimal_few, decimal_are, column_length}
use Rattle.sheets.specs.Sheet.{step_line, signed_line}
use Rattle.sheets.specs.Clauses.{NumbersFit}
use Rattle.sheets.specs.Right.{is_character, IsLine}

-- a column for a number of at most as many digits
pub column_fits : (width n : ℕ) → 0 < width → n < 10 ^ width → length (column width n) ≡ width
column_fits width n p h = column_length width n (decimal_few n width p h)

pub signer_wide : (signer : ℕ) → signer < 2 ^ 32 → length (decimal signer) ≤ 26
signer_wide signer h =
    let few : length (decimal signer) ≤ 10 = decimal_few signer 10 (omega arith) (omega (arith, h)) in
    omega (arith, few)

-- characters alone
abbrev Characters : List ℕ → Type 0
Characters xs = (i : ℕ) → i < length xs → is_character (get_or xs i 0) ≡ true

joined : (xs ys : List ℕ) → Characters xs → Characters ys → Characters (xs ++ ys)
joined xs ys f g i h =
    split_le (length xs) i
    (λ l.
    let e : length xs + (i - length xs) ≡ i = omega arith in
    ap is_character (sym (ap (λ (j : ℕ). get_or (xs ++ ys) j 0) e) ∙ get_or-append-add xs ys (i - length xs) 0)
    ∙ g (i - length xs) (omega (arith, h, length-append xs ys)))
    (λ l. ap is_character (get_or-append xs ys 0 i l) ∙ f i l)

blank : is_character 32 ≡ true
unfolding is_character
blank = refl

digit : (d : ℕ) → 48 ≤ d → d ≤ 57 → is_character d ≡ true
unfolding is_character
digit d h k = or_right (eqb d 32) (or_left (any_of (eqb d) (ascii "SIGNED")) (and_join (le-leb 48 d h) (le-leb d 57 k)))

column_characters : (width n : ℕ) → Characters (column width n)
unfolding column
column_characters width n =
    joined (replicate (width - length (decimal n)) 32) (decimal n)
    (λ i h. ap is_character (get_or-replicate {A = ℕ} (width - length (decimal n)) i 32 0 (omega (arith, h, length-replicate {A = ℕ} (width - length (decimal n)) 32))) ∙ blank)
    (λ i h. digit (get_or (decimal n) i 0) (decimal_are n i h).0 (decimal_are n i h).1)

-- 32 characters with a line feed behind them
is_line_lem : (front : List ℕ) → length front ≡ 32 → Characters front → IsLine (front ++ (10 ∷ []))
is_line_lem front l f =
    record {
      long = omega (arith, length-append front (10 ∷ []), l);
      characters = λ i h. ap is_character (get_or-append front (10 ∷ []) 0 i (omega (arith, h, l))) ∙ f i (omega (arith, h, l));
      ends = ap (λ (j : ℕ). get_or (front ++ (10 ∷ [])) j 0) (sym l) ∙ get_or-append_seam front 10 [] 0;
    }

abbrev blanks : List ℕ
blanks = 32 ∷ 32 ∷ []

abbrev letters : List ℕ
letters = 83 ∷ 73 ∷ 71 ∷ 78 ∷ 69 ∷ 68 ∷ []

two_blanks : Characters blanks
two_blanks zero h = blank
two_blanks (suc zero) h = blank
two_blanks (suc (suc i)) h = absurd (omega arith)

signed_letters : Characters letters
unfolding is_character ascii
signed_letters zero h = refl
signed_letters (suc zero) h = refl
signed_letters (suc (suc zero)) h = refl
signed_letters (suc (suc (suc zero))) h = refl
signed_letters (suc (suc (suc (suc zero)))) h = refl
signed_letters (suc (suc (suc (suc (suc zero))))) h = refl
signed_letters (suc (suc (suc (suc (suc (suc i)))))) h = absurd (omega arith)

module _ (step action minutes total : ℕ) (f : NumbersFit step action minutes total) where
  abbrev front₂ : List ℕ
  front₂ = column 4 step ++ blanks

  abbrev front₃ : List ℕ
  front₃ = front₂ ++ column 5 action

  abbrev front₄ : List ℕ
  front₄ = front₃ ++ column 9 minutes

  abbrev front : List ℕ
  front = front₄ ++ column 12 total

  front_length : length front ≡ 32
  front_length =
      omega (
        arith,
        column_fits 4 step (omega arith) f.step_fits,
        column_fits 5 action (omega arith) f.action_fits,
        column_fits 9 minutes (omega arith) f.minutes_fit,
        column_fits 12 total (omega arith) f.total_fits,
        length-append (column 4 step) blanks,
        length-append front₂ (column 5 action),
        length-append front₃ (column 9 minutes),
        length-append front₄ (column 12 total),
      )

  pub step_is_line : IsLine (step_line step action minutes total)
  unfolding step_line ascii
  step_is_line =
      is_line_lem front front_length
      (joined front₄ (column 12 total)
      (joined front₃ (column 9 minutes)
      (joined front₂ (column 5 action)
      (joined (column 4 step) blanks (column_characters 4 step) two_blanks)
      (column_characters 5 action))
      (column_characters 9 minutes))
      (column_characters 12 total))

module _ (signer : ℕ) (h : signer < 2 ^ 32) where
  pub signed_is_line : IsLine (signed_line signer)
  unfolding signed_line ascii
  signed_is_line =
      is_line_lem (letters ++ column 26 signer)
      (omega (arith, length-append letters (column 26 signer), column_length 26 signer (signer_wide signer h)))
      (joined letters (column 26 signer) signed_letters (column_characters 26 signer))

-- a run of stores is what is placed
pub stores_placed : (b : List ℕ) (at : ℕ) (xs : List ℕ) → sets b at xs ≡ placed b at xs
unfolding placed
stores_placed b at [] = refl
stores_placed b at (x ∷ xs) = stores_placed (set b at x) (suc at) xs ∙ ap (λ (n : ℕ). placed (set b at x) n xs) (sym (add-one at))

-- one part of a line behind what is written of it
next_part : (b c d : List ℕ) (at next : ℕ) (xs ys : List ℕ) → c ≡ placed b at xs → next ≡ at + length xs → d ≡ sets c next ys → d ≡ placed b at (xs ++ ys)
next_part b c d at next xs ys e f g = g ∙ stores_placed c next ys ∙ placed_then b c at next xs ys e f

module _ (step action minutes total : ℕ) (f : NumbersFit step action minutes total) (b b₁ b₂ b₃ b₄ b₅ : List ℕ) (at : ℕ) where
  pub step_written : b₁ ≡ sets b at (column 4 step) → b₂ ≡ sets b₁ (at + 4) (replicate 2 32) → b₃ ≡ sets b₂ (at + 6) (column 5 action)
      → b₄ ≡ sets b₃ (at + 11) (column 9 minutes) → b₅ ≡ sets b₄ (at + 20) (column 12 total)
      → set b₅ (at + 32) 10 ≡ placed b at (step_line step action minutes total)
  unfolding step_line ascii
  step_written e₁ e₂ e₃ e₄ e₅ =
      let l₁ = column_fits 4 step (omega arith) f.step_fits in
      let l₃ = column_fits 5 action (omega arith) f.action_fits in
      let l₄ = column_fits 9 minutes (omega arith) f.minutes_fit in
      let l₅ = column_fits 12 total (omega arith) f.total_fits in
      let a₂ = length-append (column 4 step) blanks in
      let a₃ = length-append (column 4 step ++ blanks) (column 5 action) in
      let a₄ = length-append (column 4 step ++ blanks ++ column 5 action) (column 9 minutes) in
      let p₁ = e₁ ∙ stores_placed b at (column 4 step) in
      let p₂ = next_part b b₁ b₂ at (at + 4) (column 4 step) blanks p₁ (omega (arith, l₁)) e₂ in
      let p₃ = next_part b b₂ b₃ at (at + 6) (column 4 step ++ blanks) (column 5 action) p₂ (omega (arith, l₁, a₂)) e₃ in
      let p₄ = next_part b b₃ b₄ at (at + 11) (column 4 step ++ blanks ++ column 5 action) (column 9 minutes) p₃ (omega (arith, l₁, a₂, l₃, a₃)) e₄ in
      let p₅ = next_part b b₄ b₅ at (at + 20) (column 4 step ++ blanks ++ column 5 action ++ column 9 minutes) (column 12 total) p₄ (omega (arith, l₁, a₂, l₃, a₃, l₄, a₄)) e₅ in
      next_part b b₅ (set b₅ (at + 32) 10) at (at + 32) (front step action minutes total f) (10 ∷ []) p₅ (omega (arith, front_length step action minutes total f)) refl

pub word_written : (b part : List ℕ) (at k : ℕ) → k ≡ 6 → at + 6 ≤ length b → part ≡ letters → put_mid at k b part ≡ placed b at (ascii "SIGNED")
unfolding ascii
word_written b part at k e h f = ap (put_mid at k b) f ∙ part_set b letters at k (sym e) (omega arith) ∙ stores_placed b at letters

module _ (signer : ℕ) (h : signer < 2 ^ 32) (b b₁ b₂ : List ℕ) (at : ℕ) where
  pub signed_written : b₁ ≡ placed b at (ascii "SIGNED") → b₂ ≡ sets b₁ (at + 6) (column 26 signer) → set b₂ (at + 32) 10 ≡ placed b at (signed_line signer)
  unfolding signed_line ascii
  signed_written e₁ e₂ =
      let p = next_part b b₁ b₂ at (at + 6) letters (column 26 signer) e₁ refl e₂ in
      next_part b b₂ (set b₂ (at + 32) 10) at (at + 32) (letters ++ column 26 signer) (10 ∷ []) p
      (omega (arith, length-append letters (column 26 signer), column_length 26 signer (signer_wide signer h))) refl
