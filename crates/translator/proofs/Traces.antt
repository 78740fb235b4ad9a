-- Traces of a format: a value for each field that follows; what they are as text, what they give, and whether nothing
-- refuses them.
use Prim.Native.Nat.{ℕ}
use mathlib.Core.Path.{◌≡◌}
use mathlib.Core.Bool.{Bool, true, false, ◌&&◌}
use mathlib.Core.List.{List, [], ◌++◌}
use mathlib.Core.Option.{Option, none, some}
use Rattle.translator.specs.Fields.{Field, Value}
use Rattle.translator.specs.Format.{Fault, Format, gives, field}
use Rattle.translator.proofs.Written.{written, writable}

abbrev pub is_fine : Option Fault → Bool
is_fine none = true
is_fine (some fault) = false

pub record Step (f : Field) (Next : Value f → Type 0) : Type 0 where
  pub value : Value f
  pub fits : writable f value ≡ true
  pub rest : Next value

abbrev pub Trace : {A : Type 0} → Format A → Type 0
Trace (gives a) = Unit {0}
Trace (field f fault next) = Step f (λ v. Trace (next v))

abbrev pub text_of : {A : Type 0} (f : Format A) → Trace f → List ℕ
text_of (gives a) t = []
text_of (field f fault next) t = written f t.value ++ text_of (next t.value) t.rest

abbrev pub value_of : {A : Type 0} (f : Format A) → Trace f → A
value_of (gives a) t = a
value_of (field f fault next) t = value_of (next t.value) t.rest

-- no fault in any value
abbrev pub passed : {A : Type 0} (f : Format A) → Trace f → Bool
passed (gives a) t = true
passed (field f fault next) t = is_fine (fault t.value) && passed (next t.value) t.rest

-- the traces of a format are the printings of what it gives: `good` is what can be printed, `ok` what nothing refuses
pub record Prints {A : Type 0} (f : Format A) (good : A → Type 0) (print : A → List ℕ) (ok : A → Bool) : Type 0 where
  pub text : (t : Trace f) → text_of f t ≡ print (value_of f t)
  pub fits : (t : Trace f) → good (value_of f t)
  pub passes : (t : Trace f) → passed f t ≡ ok (value_of f t)
  pub trace : (a : A) → good a → Trace f
  pub value : (a : A) (g : good a) → value_of f (trace a g) ≡ a
