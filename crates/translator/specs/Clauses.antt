-- Names for the parts of what the functions that read fields ask and ensure.
use Rattle.std.specs.Prelude.{ℕ, ◌≤◌, Bool, cond, List, leb, length, take, drop}
use Rattle.std.proofs.Math.Option.{Option, none, some}
use Rattle.files.specs.Outcome.{refusal}
use Rattle.digits.specs.Decimal.{number_of}
use Rattle.translator.specs.Cursors.{Cursor}
use Rattle.translator.specs.declared.fields.Found.{Found}
use Rattle.translator.specs.Cursors.{ReadNumber}
use Rattle.translator.specs.Fields.{number, signed, digits_length, numeral_length, numeral_value, field_value}
use Rattle.translator.specs.Format.{Format, is_open, cursor_refused, field_after, cursor_after, value_after}
use Rattle.translator.specs.Sas.{Separator}

-- an offset of a text that is within the limit
pub record Inside (s : List ℕ) (at : ℕ) : Type 0 where
  pub limited : length s ≤ 65536
  pub within : at ≤ length s

-- a number as far as it is told from larger ones: above every limit, and more than a text has bytes
unfoldable pub capped : ℕ → ℕ
capped n = cond (leb n 1048576) n 1048576

-- a digit behind such a number
pub record DigitBehind (value digit : ℕ) : Type 0 where
  pub few : value ≤ 1048576
  pub least : 48 ≤ digit

-- the digits at the front of a text's rest, and a number there
unfoldable pub digits_found : List ℕ → Found
digits_found rest = record { count = digits_length rest; value = capped (number_of (take (digits_length rest) rest)) }

unfoldable pub numeral_found : List ℕ → Found
numeral_found rest = record { count = numeral_length rest; value = capped (numeral_value rest) }

-- a number that was read up to a cursor, 0 beside a refusal
unfoldable pub with_number : Cursor → ℕ → ReadNumber
with_number c value = record { cursor = c; value = cond (is_open c) value 0 }

-- a number and its separator
unfoldable pub number_after : Separator → List ℕ → Cursor → ReadNumber
number_after separator s c = with_number (field_after (number separator) s c) (capped (field_value (number separator) (drop c.at s)))

-- a number or none as one number
abbrev pub coded : Option ℕ → ℕ
coded none = 1048577
coded (some n) = capped n

unfoldable pub signed_after : Separator → List ℕ → Cursor → ReadNumber
signed_after separator s c = with_number (field_after (signed separator) s c) (coded (field_value (signed separator) (drop c.at s)))

-- a cursor behind a test, which a fault at a place stands for where it fails
unfoldable pub judged : Cursor → Bool → ℕ → ℕ → Cursor
judged c passes fault place = cond (is_open c) (cond passes c (cursor_refused (refusal fault place))) c

-- the number that a format gives, by what is read
unfoldable pub number_by : {A : Type 0} → Format A → (A → ℕ) → List ℕ → Cursor → ReadNumber
number_by f g s c = with_number (cursor_after f s c) (g (value_after f s c))

abbrev pub same : ℕ → ℕ
same n = n
