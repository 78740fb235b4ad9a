-- What is promised of the call: the check passes just the texts that state a supported task, 31 stands at the first byte with
-- which no text goes on, and the file written means the task that the text states.
use Rattle.std.specs.Prelude.{ℕ, ◌+◌, ◌*◌, ◌^◌, ◌≤◌, ◌<◌, ◌≡◌, true, List, length, take}
use Rattle.files.specs.Accepted.{accepted_task}
use Rattle.files.specs.Outcome.{done, refusal}
use Rattle.files.specs.Reading.{read_task, under}
use Rattle.files.specs.TaskFile.{task_file}
use Rattle.translator.specs.Sas.{Sas, printed, well_named}
use Rattle.translator.specs.Stated.{supported, textual, stated, Means}
use Rattle.translator.specs.Text.{check_text, text_task}
use Rattle.translator.specs.Translate.{translate_outcome, translate_answer, translated_file}

-- a text that is the printing of what it states, which is supported
pub record States (s : List ℕ) (x : Sas) : Type 0 where
  pub names : well_named x ≡ true
  pub within : supported x ≡ true
  pub text : printed x ≡ s

-- then the check is done, and the task is the one stated: an accepted one, whose file is shorter than the text, and which
-- means what the text says
pub record StatesRight (s : List ℕ) (x : Sas) : Type 0 where
  pub passes : check_text s ≡ done
  pub task : text_task s ≡ stated x
  pub accepted : accepted_task (stated x) ≡ true
  pub shorter : (signer : ℕ) → length (task_file (stated x) signer) + 82 + 29 * length x.variables + 23 * length x.operators ≤ length s
  pub means : Means (textual x) (stated x)

pub record TextRight (s : List ℕ) : Type 0 where
  pub states : check_text s ≡ done → (x : Sas) × States s x
  pub right : (x : Sas) → States s x → StatesRight s x

-- a text of the format begins with the first p bytes; none begins with one byte more, or, where there is none, is the text
pub record PlaceRight (s : List ℕ) (p : ℕ) : Type 0 where
  pub within : p ≤ length s
  pub begun : (x : Sas) × (well_named x ≡ true) × (take p (printed x) ≡ take p s)
  pub stops : (x : Sas) → well_named x ≡ true → take (p + 1) (printed x) ≡ take (p + 1) s → ⊥

abbrev pub TextsRight : Type 0
TextsRight = (s : List ℕ) → length s ≤ 65536 → TextRight s

abbrev pub PlacesRight : Type 0
PlacesRight = (s : List ℕ) (p : ℕ) → length s ≤ 65536 → check_text s ≡ refusal 31 p → PlaceRight s p

-- where the call is done, the file that stands at the buffer's front reads back as the task stated, under the signer given
pub record FileRight (text : List ℕ) (signer : ℕ) (file : List ℕ) (x : Sas) : Type 0 where
  pub front : take (translate_answer text signer file).file (translated_file text signer file) ≡ task_file (stated x) signer
  pub reads : read_task (task_file (stated x) signer) ≡ under (stated x) signer

abbrev pub FilesRight : Type 0
FilesRight =
    (text : List ℕ) (signer : ℕ) (file : List ℕ) (x : Sas) → signer < 2 ^ 32 → translate_outcome text signer file ≡ done → States text x → FileRight text signer file x
