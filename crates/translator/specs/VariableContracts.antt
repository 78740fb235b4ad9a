-- Names for the parts of what the functions that read variables and mutex groups ask and ensure.
use Rattle.std.specs.Prelude.{ℕ, ◌%◌, ◌≤◌, ◌≡◌, true, List, map, length, take}
use Rattle.files.specs.Bytes.{placed}
use Rattle.translator.specs.Cursors.{Cursor}
use Rattle.translator.specs.Fields.{number, signed}
use Rattle.translator.specs.Format.{field, is_open, step_after, cursor_after, value_after}
use Rattle.translator.specs.Sas.{Declaration, Started, line_feed}
use Rattle.translator.specs.Stated.{sizes_of}
use Rattle.translator.specs.Text.{any, each, layer_fault, declaration, group, starts}

abbrev pub size_of : Declaration → ℕ
size_of d = length d.values

-- a cursor behind an axiom layer
unfoldable pub layer_after : List ℕ → Cursor → Cursor
layer_after s c = step_after (signed line_feed) layer_fault s c

-- arrays with a cell for each of `count` variables
pub record VariablesInside (count : ℕ) (cells : List ℕ) : Type 0 where
  pub few : count ≤ 64
  pub room : 64 ≤ length cells

pub record StartsInside (count : ℕ) (sizes cells : List ℕ) : Type 0 where
  pub inside : VariablesInside count cells
  pub sizes_room : 64 ≤ length sizes

-- domain sizes and start values as they are stored
abbrev pub stored_sizes : List Declaration → List ℕ
stored_sizes declarations = map (λ d. size_of d % 256) declarations

abbrev pub stored_starts : List Started → List ℕ
stored_starts variables = map (λ v. v.start % 256) variables

-- a cursor behind the declarations, and an array before and after their sizes are stored, where nothing is refused
pub record DeclarationsRead (s : List ℕ) (c : Cursor) (count : ℕ) (before : List ℕ) (r : Cursor) (now : List ℕ) : Type 0 where
  pub cursor : r ≡ cursor_after (each declaration count) s c
  pub stored : is_open r ≡ true → now ≡ placed before 0 (stored_sizes (value_after (each declaration count) s c))

-- start values, of any declarations that have the sizes
pub record StartsStored (s : List ℕ) (c : Cursor) (declarations : List Declaration) (before : List ℕ) (r : Cursor) (now : List ℕ) : Type 0 where
  pub cursor : r ≡ cursor_after (starts declarations) s c
  pub stored : is_open r ≡ true → now ≡ placed before 0 (stored_starts (value_after (starts declarations) s c))

pub record StartsRead (s : List ℕ) (c : Cursor) (count : ℕ) (sizes before : List ℕ) (r : Cursor) (now : List ℕ) : Type 0 where
  pub is : (declarations : List Declaration) → (is_open c ≡ true → sizes_of declarations ≡ take count sizes) → StartsStored s c declarations before r now

-- a cursor behind the mutex groups
unfoldable pub groups_after : List ℕ → Cursor → Cursor
groups_after s c = cursor_after (field (number line_feed) any (λ n. each group n)) s c
