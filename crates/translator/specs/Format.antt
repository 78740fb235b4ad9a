-- Formats: which field follows which, what refuses a field's value, and how a text is read by a format.
use Rattle.std.specs.Prelude.{ℕ, zero, suc, ◌+◌, Bool, cond, List, [], ◌∷◌, drop}
use Rattle.std.proofs.Math.Option.{Option, none, some}
use Rattle.files.specs.Outcome.{Outcome, done, refusal, is_done}
use Rattle.translator.specs.Cursors.{Cursor}
use Rattle.translator.specs.Fields.{Field, Value, field_at, field_length, field_value}

-- what can be wrong with a value whose form is right
pub data Fault : Type 0 where
  unsupported : Fault
  given_twice : Fault
  outside_limits : Fault
  out_of_range : Fault

abbrev pub fault_number : Fault → ℕ
fault_number unsupported = 32
fault_number given_twice = 33
fault_number outside_limits = 4
fault_number out_of_range = 5

-- a fault where a test fails, else what else is wrong
abbrev pub unless : Bool → Fault → Option Fault → Option Fault
unless test fault others = cond test others (some fault)

-- nothing more, with what was read; or a field, the fault of its value, and what follows it
pub data Format (A : Type 0) : Type 0 where
  gives : A → Format A
  field : (f : Field) → (Value f → Option Fault) → (Value f → Format A) → Format A

-- one format behind another
unfoldable pub bind : {A B : Type 0} → Format A → (A → Format B) → Format B
bind (gives a) next = next a
bind (field f fault rest) next = field f fault (λ v. bind (rest v) next)

-- `count` elements, each by a state that those before it leave
unfoldable pub repeat : {S A : Type 0} → (S → Format A) → (S → A → S) → S → ℕ → Format (List A)
repeat item onward state zero = gives []
repeat item onward state (suc count) =
    bind (item state) (λ a. bind (repeat item onward (onward state a) count) (λ rest. gives (a ∷ rest)))

-- a text is read up to an offset, or up to a refusal
abbrev pub cursor_at : ℕ → Cursor
cursor_at at = record { outcome = done; at = at }

abbrev pub cursor_refused : Outcome → Cursor
cursor_refused o = record { outcome = o; at = 0 }

unfoldable pub is_open : Cursor → Bool
is_open c = is_done c.outcome

unfoldable pub cursor_by : Outcome → ℕ → Cursor
cursor_by o end = cond (is_done o) (cursor_at end) (cursor_refused o)

-- a refusal ends the reading
unfoldable pub field_after : Field → List ℕ → Cursor → Cursor
field_after f s c =
    cond (is_open c)
    (cursor_by (field_at f (drop c.at s) c.at) (c.at + field_length f (drop c.at s)))
    c

unfoldable pub fault_after : Option Fault → ℕ → Cursor → Cursor
fault_after none place c = c
fault_after (some fault) place c = cond (is_open c) (cursor_refused (refusal (fault_number fault) place)) c

-- a field, then the fault of its value, at the field
unfoldable pub step_after : (f : Field) → (Value f → Option Fault) → List ℕ → Cursor → Cursor
step_after f fault s c = fault_after (fault (field_value f (drop c.at s))) c.at (field_after f s c)

unfoldable pub cursor_after : {A : Type 0} → Format A → List ℕ → Cursor → Cursor
cursor_after (gives a) s c = c
cursor_after (field f fault next) s c = cursor_after (next (field_value f (drop c.at s))) s (step_after f fault s c)

-- what was read, where nothing is refused
unfoldable pub value_after : {A : Type 0} → Format A → List ℕ → Cursor → A
value_after (gives a) s c = a
value_after (field f fault next) s c = value_after (next (field_value f (drop c.at s))) s (step_after f fault s c)
