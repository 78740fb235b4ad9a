-- Fields as text: what a field is written for a value, and what is to be shown of a field's reader.
use Prim.Native.Nat.{ℕ, ◌+◌, ◌≤◌}
use mathlib.Core.Path.{◌≡◌}
use mathlib.Core.Bool.{Bool, true}
use mathlib.Core.List.{List, ◌++◌}
use mathlib.Core.Logic.{◌⊎◌}
use lib.ListN.{length, take, drop}
use Rattle.files.specs.Outcome.{done, refusal}
use Rattle.translator.specs.Fields.{Field, word, name, flag, number, signed, Value, field_at, field_length, field_value}
use Rattle.translator.specs.Sas.{name_line, printed_metric, ended, ended_option, is_name}

unfoldable pub written : (f : Field) → Value f → List ℕ
written (word w) v = w
written name n = name_line n
written flag metric = printed_metric metric
written (number separator) n = ended separator n
written (signed separator) n = ended_option separator n

-- a value that a field can have: names have no line feed
unfoldable pub writable : (f : Field) → Value f → Bool
writable (word w) v = true
writable name n = is_name n
writable flag metric = true
writable (number separator) n = true
writable (signed separator) n = true

-- the rest r of a text goes on with a field for k bytes, and not for one more
pub record Unfinished (f : Field) (r : List ℕ) (k : ℕ) : Type 0 where
  pub within : k ≤ length r
  pub value : Value f
  pub fits : writable f value ≡ true
  pub long : k ≤ length (written f value)
  pub begun : take k (written f value) ≡ take k r
  pub stops : (v : Value f) (rest : List ℕ) → writable f v ≡ true → take (k + 1) (written f v ++ rest) ≡ take (k + 1) r → ⊥

pub record FieldRight (f : Field) : Type 0 where
  -- what is written is read
  pub reads : (v : Value f) (rest : List ℕ) (at : ℕ) → writable f v ≡ true → field_at f (written f v ++ rest) at ≡ done
  pub ends : (v : Value f) (rest : List ℕ) → writable f v ≡ true → field_length f (written f v ++ rest) ≡ length (written f v)
  pub states : (v : Value f) (rest : List ℕ) → writable f v ≡ true → field_value f (written f v ++ rest) ≡ v
  -- what is read was written
  pub fits : (r : List ℕ) (at : ℕ) → field_at f r at ≡ done → writable f (field_value f r) ≡ true
  pub back : (r : List ℕ) (at : ℕ) → field_at f r at ≡ done → r ≡ written f (field_value f r) ++ drop (field_length f r) r
  pub long : (r : List ℕ) (at : ℕ) → field_at f r at ≡ done → field_length f r ≡ length (written f (field_value f r))
  -- a field is read, or unfinished at the place of 31
  pub form : (r : List ℕ) (at : ℕ) → (field_at f r at ≡ done) ⊎ ((k : ℕ) × (field_at f r at ≡ refusal 31 (at + k)) × Unfinished f r k)
