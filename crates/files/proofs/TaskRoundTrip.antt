-- A task file that is written reads back, and a file that reads as a task is the one written for it.
use Rattle.files.specs.Bytes.{Octets}
use Prim.Native.Nat.{ℕ, ◌+◌, ◌≤◌}
use mathlib.Core.Path.{◌≡◌, refl, ◌∙◌}
use mathlib.Core.Bool.{true}
use mathlib.Core.List.{List}
use native.Mathlib.Omega.{arith}
use lib.ListN.{length}
use Rattle.files.specs.Outcome.{done}
use Rattle.files.specs.Records.{signer_of}
use Rattle.files.specs.Task.{Task}
use Rattle.files.specs.TaskFile.{check_task, task_of, task_records, task_file}
use Rattle.files.specs.Reading.{under, read_task}
use Rattle.files.specs.Accepted.{valid_signer, accepted_task}
use Rattle.files.proofs.Listed.{task_check_done}
use Rattle.files.proofs.ReadAs.{reads_as, read_as}
use Rattle.files.proofs.Lengths.{signed_length}
use Rattle.files.proofs.SignOff.{records_stand, signed_signer, signed_done}
use Rattle.files.proofs.Valid.{task_valid}
use Rattle.files.proofs.TaskLaid.{records_laid, laid_task, laid_done}
use Rattle.files.proofs.TaskChecked.{task_written}

module _ (f : List ℕ) where
  pub task_read_as : (t : Task) (signer : ℕ) → read_task f ≡ under t signer → (check_task f ≡ done) × (task_of f ≡ t) × (signer_of f ≡ signer)
  unfolding read_task
  task_read_as t signer e =
      let parts = read_as (check_task f) (task_of f) (signer_of f) t signer e in
      (task_check_done f parts.0, parts.1, parts.2)

module _ (t : Task) (signer : ℕ) (a : accepted_task t ≡ true) (v : valid_signer signer ≡ true) where
  records_small : length (task_records t) + 12 ≤ 65536
  unfolding task_file
  records_small = omega (arith, (task_valid t a).file, signed_length 1 (task_records t))

  pub task_reads_back : read_task (task_file t signer) ≡ under t signer
  unfolding read_task task_file
  task_reads_back =
      let laid = records_laid t (records_stand signer (task_records t)) in
      let valid = task_valid t a in
      let small = records_small in
      reads_as (check_task (task_file t signer)) (task_of (task_file t signer)) (signer_of (task_file t signer)) t signer
      (laid_done (task_file t signer) t laid valid
      (omega (arith, signed_length signer (task_records t)))
      (signed_done signer (task_records t) (omega arith) v (length (task_records t)) refl))
      (laid_task (task_file t signer) t laid valid)
      (signed_signer signer (task_records t) (omega arith) v)

pub task_file_unique : (f : List ℕ) (t : Task) (signer : ℕ) → Octets f → read_task f ≡ under t signer → f ≡ task_file t signer
unfolding read_task
task_file_unique f t signer o e =
    let parts = read_as (check_task f) (task_of f) (signer_of f) t signer e in
    task_written f o parts.0 ∙ (λ i. task_file (parts.1 i) (parts.2 i))
