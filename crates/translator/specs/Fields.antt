-- The fields of a text: words, name lines, the metric's digit and numbers, each with the byte that ends it. A field is read
-- from the rest of a text; `at` is the offset of that rest, for the place of a refusal.
use Rattle.std.specs.Prelude.{ℕ, ◌+◌, Bool, cond, ◌&&◌, ◌||◌, List, [], ◌∷◌, ◌++◌, eqb, leb, length, get_or, take, drop}
use Rattle.std.proofs.Math.Option.{Option, none, some}
use Rattle.files.specs.Outcome.{Outcome, done, refusal, guard}
use Rattle.digits.specs.Decimal.{ascii, number_of}
use Rattle.translator.specs.Sas.{Separator, byte_of}

-- a number has its separator; a signed one may be -1
pub data Field : Type 0 where
  word : List ℕ → Field
  name : Field
  flag : Field
  number : Separator → Field
  signed : Separator → Field

-- what a field states
abbrev pub Value : Field → Type 0
Value (word w) = Unit {0}
Value name = List ℕ
Value flag = Bool
Value (number separator) = ℕ
Value (signed separator) = Option ℕ

-- a byte that is due; 31: a byte with which no text goes on, or the end of the text
unfoldable pub byte_at : ℕ → List ℕ → ℕ → Outcome
byte_at byte [] at = refusal 31 at
byte_at byte (b ∷ rest) at = guard (eqb b byte) 31 at done

-- a word, byte by byte
unfoldable pub word_at : List ℕ → List ℕ → ℕ → Outcome
word_at [] rest at = done
word_at (c ∷ w) [] at = refusal 31 at
word_at (c ∷ w) (b ∷ rest) at = guard (eqb b c) 31 at (word_at w rest (at + 1))

-- how many bytes stand before the first line feed
unfoldable pub line_length : List ℕ → ℕ
line_length [] = 0
line_length (b ∷ rest) = cond (eqb b 10) 0 (line_length rest + 1)

unfoldable pub is_digit : ℕ → Bool
is_digit b = leb 48 b && leb b 57

unfoldable pub digits_length : List ℕ → ℕ
digits_length [] = 0
digits_length (b ∷ rest) = cond (is_digit b) (digits_length rest + 1) 0

-- no spare zeros: a number that begins with 0 is 0
unfoldable pub numeral_length : List ℕ → ℕ
numeral_length rest = cond (eqb (get_or rest 0 0) 48) 1 (digits_length rest)

unfoldable pub numeral_at : ℕ → List ℕ → ℕ → Outcome
numeral_at separator rest at =
    guard (leb 1 (numeral_length rest)) 31 at
    (byte_at separator (drop (numeral_length rest) rest) (at + numeral_length rest))

unfoldable pub is_minus : List ℕ → Bool
is_minus rest = eqb (get_or rest 0 0) 45

-- -1 and its separator
unfoldable pub minus_one : ℕ → List ℕ
minus_one separator = ascii "-1" ++ (separator ∷ [])

unfoldable pub signed_at : ℕ → List ℕ → ℕ → Outcome
signed_at separator rest at = cond (is_minus rest) (word_at (minus_one separator) rest at) (numeral_at separator rest at)

unfoldable pub is_flag : List ℕ → Bool
is_flag rest = eqb (get_or rest 0 0) 48 || eqb (get_or rest 0 0) 49

unfoldable pub field_at : Field → List ℕ → ℕ → Outcome
field_at (word w) rest at = word_at w rest at
field_at name rest at = byte_at 10 (drop (line_length rest) rest) (at + line_length rest)
field_at flag rest at = guard (is_flag rest) 31 at (byte_at 10 (drop 1 rest) (at + 1))
field_at (number separator) rest at = numeral_at (byte_of separator) rest at
field_at (signed separator) rest at = signed_at (byte_of separator) rest at

-- how many bytes it has
unfoldable pub field_length : Field → List ℕ → ℕ
field_length (word w) rest = length w
field_length name rest = line_length rest + 1
field_length flag rest = 2
field_length (number separator) rest = numeral_length rest + 1
field_length (signed separator) rest = cond (is_minus rest) 3 (numeral_length rest + 1)

-- the number of any size that digits state
unfoldable pub numeral_value : List ℕ → ℕ
numeral_value rest = number_of (take (numeral_length rest) rest)

unfoldable pub field_value : (f : Field) → List ℕ → Value f
field_value (word w) rest = tt
field_value name rest = take (line_length rest) rest
field_value flag rest = eqb (get_or rest 0 0) 49
field_value (number separator) rest = numeral_value rest
field_value (signed separator) rest = cond (is_minus rest) none (some (numeral_value rest))
