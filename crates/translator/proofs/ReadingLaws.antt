-- How a text is read by a format: a refusal ends the reading, and formats that follow one another are read in turn.
use Prim.Native.Nat.{ℕ}
use mathlib.Core.Path.{◌≡◌, refl, ap, ◌∙◌}
use mathlib.Core.Bool.{true, false}
use mathlib.Core.List.{List}
use mathlib.Core.Option.{Option, none, some}
use lib.ListN.{drop}
use Rattle.files.proofs.Logic.{clash, split}
use Rattle.translator.specs.Cursors.{Cursor}
use Rattle.translator.specs.Fields.{Field, Value, field_value}
use Rattle.translator.specs.Format.{Fault, Format, gives, field, bind, is_open, field_after, fault_after, step_after, cursor_after, value_after}

-- a refusal ends the reading
pub field_closed : (f : Field) (s : List ℕ) (c : Cursor) → is_open c ≡ false → field_after f s c ≡ c
unfolding field_after
field_closed f s c e = rw e refl

pub fault_refused : (o : Option Fault) (place : ℕ) (c : Cursor) → is_open c ≡ false → fault_after o place c ≡ c
unfolding fault_after
fault_refused none place c e = refl
fault_refused (some fault) place c e = rw e refl

step_refused_lem : (f : Field) (fault : Value f → Option Fault) (s : List ℕ) (c : Cursor) → is_open c ≡ false → step_after f fault s c ≡ c
unfolding step_after
step_refused_lem f fault s c e =
    ap (fault_after (fault (field_value f (drop c.at s))) c.at) (field_closed f s c e)
    ∙ fault_refused (fault (field_value f (drop c.at s))) c.at c e

pub after_refused : {A : Type 0} (f : Format A) (s : List ℕ) (c : Cursor) → is_open c ≡ false → cursor_after f s c ≡ c
unfolding cursor_after
after_refused (gives a) s c e = refl
after_refused (field f fault next) s c e =
    ap (cursor_after (next (field_value f (drop c.at s))) s) (step_refused_lem f fault s c e)
    ∙ after_refused (next (field_value f (drop c.at s))) s c e

-- what is read was begun
pub open_before : {A : Type 0} (f : Format A) (s : List ℕ) (c : Cursor) → is_open (cursor_after f s c) ≡ true → is_open c ≡ true
open_before f s c e = split (is_open c) (λ o. o) (λ o. clash e (ap is_open (after_refused f s c o) ∙ o))

-- one format behind another is read behind it
pub after_bind : {A B : Type 0} (f : Format A) (k : A → Format B) (s : List ℕ) (c : Cursor) → cursor_after (bind f k) s c ≡ cursor_after (k (value_after f s c)) s (cursor_after f s c)
unfolding bind cursor_after value_after
after_bind (gives a) k s c = refl
after_bind (field f fault next) k s c = after_bind (next (field_value f (drop c.at s))) k s (step_after f fault s c)

pub value_bind : {A B : Type 0} (f : Format A) (k : A → Format B) (s : List ℕ) (c : Cursor) → value_after (bind f k) s c ≡ value_after (k (value_after f s c)) s (cursor_after f s c)
unfolding bind cursor_after value_after
value_bind (gives a) k s c = refl
value_bind (field f fault next) k s c = value_bind (next (field_value f (drop c.at s))) k s (step_after f fault s c)
