-- Where the call is done, the file that is written reads back as the task that the text states, under the signer given.
use Prim.Native.Nat.{ℕ, ◌^◌, ◌<◌}
use mathlib.Core.Path.{◌≡◌, ap, ◌∙◌}
use mathlib.Core.Bool.{true}
use mathlib.Core.List.{List}
use lib.ListN.{length, take}
use lib.Seq.{take-append_seam}
use borrow.Author.Tests.{le-leb, lt-ltb}
use Rattle.files.specs.Outcome.{Outcome, overwrite}
use Rattle.files.specs.Accepted.{valid_signer}
use Rattle.files.specs.Reading.{read_task}
use Rattle.files.specs.Task.{Task}
use Rattle.files.specs.TaskFile.{task_file}
use Rattle.files.proofs.KindsRight.{tasks_right}
use Rattle.files.proofs.Logic.{and_join}
use Rattle.translator.specs.Right.{StatesRight, FilesRight}
use Rattle.translator.specs.Stated.{stated}
use Rattle.translator.specs.Translate.{Translated, translated, translate_outcome, translated_file}
use Rattle.translator.proofs.Right.{check_fits, text_right}
use Rattle.translator.proofs.CallLaws.{call_checked, call_signed, call_whole, call_overwritten}

front : (text : List ℕ) (signer : ℕ) (file : List ℕ) → take (length (translated text signer)) (overwrite file (translated text signer)) ≡ translated text signer
unfolding overwrite
front text signer file = take-append_seam (translated text signer) _

signer_valid : (text : List ℕ) (signer : ℕ) (file : List ℕ) → (translate_outcome text signer file).number ≡ 0 → signer < 2 ^ 32 → valid_signer signer ≡ true
unfolding valid_signer
signer_valid text signer file z below = and_join (le-leb 1 signer (call_signed text signer file z)) (lt-ltb signer (2 ^ 32) below)

pub files_right : FilesRight
unfolding read_task
files_right text signer file x below e w =
    let z : (translate_outcome text signer file).number ≡ 0 = ap (λ (o : Outcome). o.number) e in
    let right : StatesRight text x = (text_right text (check_fits text (call_checked text signer file z))).right x w in
    record {
      front =
          ap (λ (r : Translated). take r.file (translated_file text signer file)) (call_whole text signer file z)
          ∙ ap (take (length (translated text signer))) (call_overwritten text signer file z)
          ∙ front text signer file
          ∙ ap (λ (t : Task). task_file t signer) right.task;
      reads = tasks_right.back (stated x) signer right.accepted (signer_valid text signer file z below);
    }
