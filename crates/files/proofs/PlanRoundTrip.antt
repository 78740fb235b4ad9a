-- A plan file that is written reads back, and a file that reads as a plan is the one written for it.
use Rattle.files.specs.Bytes.{Octets}
use Prim.Native.Nat.{ℕ, ◌/◌, ◌≤◌}
use mathlib.Core.Path.{◌≡◌, ◌∙◌}
use mathlib.Core.Bool.{true}
use mathlib.Core.List.{List}
use native.Mathlib.Omega.{arith}
use lib.ListN.{length}
use Rattle.files.specs.Records.{body_length, record_end, body_rule, body_fits, head_at, size_fits, signer_of, number_bytes, record_bytes}
use Rattle.files.specs.PlanFile.{steps_in, check_plan_file, plan_of, plan_file}
use Rattle.files.specs.Reading.{under, read_plan}
use Rattle.files.specs.Accepted.{valid_signer, accepted_plan}
use Rattle.files.proofs.Done.{facts}
use Rattle.files.proofs.ReadAs.{reads_as, read_as}
use Rattle.files.proofs.Lengths.{number_bytes_length, record_bytes_length, number_record_length, signed_length}
use Rattle.files.proofs.RecordStands.{Recorded, recorded, record_stands}
use Rattle.files.proofs.Numbers.{all_under, numbers_length, numbers_read, numbers_under, under_numbers, numbers_stand}
use Rattle.files.proofs.SignOff.{records_stand, signed_signer, signed_done, signed_off_lem, file_signed}

pub plan_length : (f : List ℕ) → length (plan_of f) ≡ steps_in f
unfolding plan_of
plan_length f = numbers_length f 4 (steps_in f)

-- a plan that is written
module _ (actions : ℕ) (plan : List ℕ) (signer : ℕ) (few : actions ≤ 65536) (a : accepted_plan actions plan ≡ true) (v : valid_signer signer ≡ true) where
  abbrev written : List ℕ
  written = plan_file plan signer

  abbrev records : List ℕ
  records = record_bytes 8 (number_bytes plan)

  steps_few : length plan ≤ 4096
  unfolding accepted_plan
  steps_few = (simp facts at a).0

  steps_under : all_under actions plan ≡ true
  unfolding accepted_plan
  steps_under = (simp facts at a).1

  plan_recorded : Recorded written 0 8 (number_bytes plan)
  unfolding plan_file
  plan_recorded =
      recorded 8 (number_bytes plan) (records_stand signer records) (omega arith)
      (omega (arith, steps_few, number_bytes_length plan))

  plan_read : plan_of written ≡ plan
  unfolding plan_of steps_in
  plan_read =
      let steps : body_length written 0 / 2 ≡ length plan = omega (arith, plan_recorded.long, number_bytes_length plan) in
      rw steps (numbers_read actions written plan 4 few plan_recorded.stands steps_under)

  plan_done : (check_plan_file actions written).number ≡ 0
  unfolding check_plan_file plan_file plan_of size_fits head_at body_fits body_rule record_end
  plan_done =
      let few_steps = steps_few in
      let short = number_record_length 8 plan in
      let long = number_bytes_length plan in
      let r = plan_recorded in
      simp facts (
        omega (arith, signed_length signer records),
        (
          omega (arith, r.stands.room),
          (
            under_numbers actions written 4 (steps_in written) (rw plan_read steps_under),
            signed_done signer records (omega arith) v (record_end written 0) (omega arith),
          ),
        ),
      )

  pub plan_reads_back : read_plan actions (plan_file plan signer) ≡ under plan signer
  unfolding read_plan plan_file
  plan_reads_back =
      reads_as (check_plan_file actions written) (plan_of written) (signer_of written) plan signer plan_done plan_read
      (signed_signer signer records (omega (arith, steps_few, number_record_length 8 plan)) v)

-- a file whose check is done
pub plan_accepted : (actions : ℕ) (f : List ℕ) → (check_plan_file actions f).number ≡ 0 → accepted_plan actions (plan_of f) ≡ true
unfolding check_plan_file size_fits head_at body_fits body_rule accepted_plan plan_of steps_in
plan_accepted actions f e =
    let found = simp facts at e in
    simp facts (omega (arith, plan_length f), numbers_under actions f 4 (steps_in f) found.1.1.0)

module _ (actions : ℕ) (f : List ℕ) (o : Octets f) (e : (check_plan_file actions f).number ≡ 0) where
  pub plan_signer_valid : valid_signer (signer_of f) ≡ true
  unfolding check_plan_file size_fits
  plan_signer_valid = let found = simp facts at e in (signed_off_lem f (record_end f 0) o found.1.1.1).valid

  pub plan_written : f ≡ plan_file (plan_of f) (signer_of f)
  unfolding check_plan_file size_fits head_at body_fits body_rule record_end plan_file plan_of steps_in
  plan_written =
      let found = simp facts at e in
      let steps = plan_length f in
      let long = number_bytes_length (plan_of f) in
      let r : Recorded f 0 8 (number_bytes (plan_of f)) =
      record { long = omega arith; named = omega arith; stands = numbers_stand f o 4 (steps_in f) (omega arith) } in
      file_signed f (record_bytes 8 (number_bytes (plan_of f))) (record_end f 0) o (record_stands o r)
      (omega (arith, record_bytes_length 8 (number_bytes (plan_of f)))) found.1.1.1

pub plan_file_unique : (actions : ℕ) (f : List ℕ) (plan : List ℕ) (signer : ℕ) → Octets f → read_plan actions f ≡ under plan signer → f ≡ plan_file plan signer
unfolding read_plan
plan_file_unique actions f plan signer o e =
    let parts = read_as (check_plan_file actions f) (plan_of f) (signer_of f) plan signer e in
    plan_written actions f o parts.0 ∙ (λ i. plan_file (parts.1 i) (parts.2 i))
