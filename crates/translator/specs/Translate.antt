-- The call: a text becomes the file of the task that it states, under the signer given.
use Rattle.std.specs.Prelude.{ℕ, List, [], ◌∷◌, map, ◌++◌, leb, length, Result, Ok, Err}
use Rattle.files.specs.Outcome.{Outcome, done, guard, fits, overwrite, refused}
use Rattle.files.specs.declared.refusals.Refusal as refusals
use Rattle.files.specs.Listed.{Refusal, in_file, refused_at, short}
use Rattle.files.specs.Stages.{Stage, stage, outcome_of, left_by, answer_by, ByStages, Answers}
use Rattle.files.specs.TaskFile.{task_file}
use Rattle.translator.specs.Text.{check_text, text_task}

-- an outcome and the bytes of the file, 0 beside a refusal
pub record Translated : Type 0 where
  pub outcome : Outcome
  pub file : ℕ

-- the file that is written
abbrev pub translated : List ℕ → ℕ → List ℕ
translated text signer = task_file (text_task text) signer

-- first the text, then the signer, then the room for the file
abbrev pub translate_stages : List ℕ → ℕ → List ℕ → List (Stage (List ℕ))
translate_stages text signer file =
    stage (check_text text) file
    ∷ stage (guard (leb 1 signer) 7 0 done) file
    ∷ stage (fits (length (translated text signer)) (length file) done) (overwrite file (translated text signer))
    ∷ []

abbrev pub translate_whole : List ℕ → ℕ → Translated
translate_whole text signer = record { outcome = done; file = length (translated text signer) }

-- beside a refusal the length is 0
abbrev pub no_file : Outcome → Translated
no_file o = record { outcome = o; file = 0 }

-- what the call answers
abbrev pub translated_of : Result ℕ refusals.Refusal → Translated
translated_of (Ok n) = record { outcome = done; file = n }
translated_of (Err r) = no_file (refused r)

-- the call: what it answers, and what the file buffer holds now
abbrev pub Translates : List ℕ → ℕ → List ℕ → Translated → List ℕ → Type 0
Translates text signer file answer now = ByStages (translate_stages text signer file) (translate_whole text signer) no_file file answer now

abbrev pub translate_outcome : List ℕ → ℕ → List ℕ → Outcome
translate_outcome text signer file = outcome_of (translate_stages text signer file)

abbrev pub translate_answer : List ℕ → ℕ → List ℕ → Translated
translate_answer text signer file = answer_by (translate_stages text signer file) (translate_whole text signer) no_file

abbrev pub translated_file : List ℕ → ℕ → List ℕ → List ℕ
translated_file text signer file = left_by (translate_stages text signer file) file

-- the refusals of a text, at a place in it: 31 for its form, 32 for what is not supported, 33 for a variable given twice
abbrev pub text_refusals : List ℕ → List Refusal
text_refusals text = map (in_file 0 (length text)) (4 ∷ 5 ∷ 31 ∷ 32 ∷ 33 ∷ [])

-- then 7 for the signer and 21 for the file
abbrev pub translate_refusals : List ℕ → ℕ → List Refusal
translate_refusals text signer = text_refusals text ++ (refused_at 7 0 ∷ short (length (translated text signer)) ∷ [])

abbrev pub TranslateAnswers : List ℕ → ℕ → List ℕ → Type 0
TranslateAnswers text signer file =
    Answers (translate_refusals text signer) (translate_stages text signer file) (translate_whole text signer) no_file
    file (translate_answer text signer file) (translated_file text signer file)
