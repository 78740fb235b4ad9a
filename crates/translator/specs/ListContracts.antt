-- Names for the parts of what the functions that read lists of pairs ask and ensure.
use Rattle.std.specs.Prelude.{ℕ, ◌+◌, ◌≤◌, ◌≡◌, Bool, true, not, cond, ◌&&◌, List, [], ◌∷◌, eqb, leb, ltb, length, get_or}
use Rattle.std.proofs.Math.Option.{none}
use Rattle.files.specs.Below.{any_of}
use Rattle.files.specs.Rows.{cleared, filled}
use Rattle.translator.specs.Cursors.{Cursor}
use Rattle.translator.specs.Cursors.{ReadNumber}
use Rattle.translator.specs.Fields.{number}
use Rattle.translator.specs.Format.{out_of_range, unless, Format, gives, field, is_open, cursor_after, value_after}
use Rattle.translator.specs.Sas.{blank, line_feed}
use Rattle.translator.specs.Stated.{variables_of}
use Rattle.translator.specs.Text.{variable_fault, condition, conditions}
use Rattle.translator.specs.Clauses.{number_by, same}

-- a row of 64 cells
pub record RowInside (row : List ℕ) (base : ℕ) : Type 0 where
  pub room : base + 64 ≤ length row

-- the row at `base` has no pair on a variable
unfoldable pub is_new : List ℕ → ℕ → ℕ → Bool
is_new row base v = cond (leb 64 v) true (eqb (get_or row (base + v) 0) 255)

-- just the variables that were given have a pair in one of two rows
abbrev pub Given : List ℕ → List ℕ → ℕ → List ℕ → Type 0
Given first second base given = (v : ℕ) → is_new first base v && is_new second base v ≡ not (any_of (eqb v) given)

pub record VariableInside (first second : List ℕ) (base variables : ℕ) : Type 0 where
  pub first_room : RowInside first base
  pub second_room : RowInside second base
  pub few : variables ≤ 64

-- a variable that was not given before
abbrev pub variable_of : List ℕ → List ℕ → Format ℕ
variable_of sizes given = field (number blank) (variable_fault sizes given) gives

pub record VariableRead (s : List ℕ) (c : Cursor) (first second : List ℕ) (base variables : ℕ) (r : ReadNumber) : Type 0 where
  pub is : (sizes given : List ℕ) → length sizes ≡ variables → (is_open c ≡ true → Given first second base given) → r ≡ number_by (variable_of sizes given) same s c

-- a value of a domain
abbrev pub value_below : ℕ → Format ℕ
value_below size = field (number line_feed) (λ n. unless (ltb n size) out_of_range none) gives

pub record PairInside (sizes row : List ℕ) (base : ℕ) : Type 0 where
  pub few : length sizes ≤ 64
  pub room : RowInside row base

-- a pair, and a row before and after it is stored, where nothing is refused
pub record PairStored (s : List ℕ) (c : Cursor) (sizes given before : List ℕ) (base : ℕ) (r : Cursor) (now : List ℕ) : Type 0 where
  pub cursor : r ≡ cursor_after (condition sizes given) s c
  pub row : is_open r ≡ true → now ≡ filled before base (value_after (condition sizes given) s c ∷ [])
  pub gives : is_open r ≡ true → Given now now base ((value_after (condition sizes given) s c).variable ∷ given)

abbrev pub PairRead : List ℕ → Cursor → List ℕ → List ℕ → ℕ → Cursor → List ℕ → Type 0
PairRead s c sizes before base r now =
    (given : List ℕ) → (is_open c ≡ true → Given before before base given) → PairStored s c sizes given before base r now

-- pairs, in a row that is cleared first
pub record ListRead (s : List ℕ) (c : Cursor) (count : ℕ) (sizes before : List ℕ) (base : ℕ) (r : Cursor) (now : List ℕ) : Type 0 where
  pub cursor : r ≡ cursor_after (conditions sizes [] count) s c
  pub row : is_open r ≡ true → now ≡ filled (cleared before base 64) base (value_after (conditions sizes [] count) s c)
  pub gives : is_open r ≡ true → Given now now base (variables_of (value_after (conditions sizes [] count) s c))
