-- What the code's calls that read a text answer, as cursors and numbers.
use Rattle.std.specs.Prelude.{ℕ, ◌≤◌, Bool, Option, Some, None, Result, Ok, Err}
use Rattle.files.specs.declared.refusals.Refusal.{Refusal}
use Rattle.files.specs.Below.{bit}
use Rattle.files.specs.Outcome.{refused}
use Rattle.translator.specs.declared.fields.Separator.{Separator}
use Rattle.translator.specs.declared.fields.Separator.TheVariants.{Blank, LineFeed}
use Rattle.translator.specs.Sas.{blank, line_feed}
use Rattle.translator.specs.Sas as Sas
use Rattle.translator.specs.Cursors.{Cursor, ReadNumber}
use Rattle.translator.specs.Format.{cursor_at, cursor_refused}

abbrev pub separator_of : Separator → Sas.Separator
separator_of Blank = blank
separator_of LineFeed = line_feed

-- where a call leaves a text: behind a refusal there is no offset
abbrev pub cursor_of : {A : Type 0} → Result A Refusal → ℕ → Cursor
cursor_of (Ok x) at = cursor_at at
cursor_of (Err r) at = cursor_refused (refused r)

-- and the number that it reads
abbrev pub read_of : Result ℕ Refusal → ℕ → ReadNumber
read_of (Ok n) at = record { cursor = cursor_at at; value = n }
read_of (Err r) at = record { cursor = cursor_refused (refused r); value = 0 }

-- a test as a number
abbrev pub test_of : Result Bool Refusal → ℕ → ReadNumber
test_of (Ok b) at = record { cursor = cursor_at at; value = bit b }
test_of (Err r) at = record { cursor = cursor_refused (refused r); value = 0 }

-- a number or none as one number
abbrev pub code_of : Option ℕ → ℕ
code_of None = 1048577
code_of (Some n) = n

abbrev pub coded_of : Result (Option ℕ) Refusal → ℕ → ReadNumber
coded_of (Ok o) at = record { cursor = cursor_at at; value = code_of o }
coded_of (Err r) at = record { cursor = cursor_refused (refused r); value = 0 }

-- a number that is told from none
abbrev pub Told : Option ℕ → Type 0
Told None = Unit {0}
Told (Some n) = n ≤ 1048576

abbrev pub ToldRead : Result (Option ℕ) Refusal → Type 0
ToldRead (Ok o) = Told o
ToldRead (Err r) = Unit {0}
