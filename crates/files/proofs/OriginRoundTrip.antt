-- An origin file that is written reads back, and a file that reads as origins is the one written for them.
use Rattle.files.specs.Bytes.{Octets}
use Prim.Native.Nat.{ℕ, ◌+◌, ◌*◌, ◌/◌, ◌≤◌}
use mathlib.Core.Path.{◌≡◌, sym, ap, ◌∙◌}
use mathlib.Core.Bool.{true}
use mathlib.Core.List.{List, ◌++◌}
use native.Mathlib.Omega.{arith}
use lib.ListN.{length, length-append}
use Rattle.files.specs.Outcome.{done}
use Rattle.files.specs.Records.{body_length, kind_at, record_end, records_end, body_rule, body_fits, head_at, sign_off_at, size_fits, signer_of, numbers_from, number_bytes, record_bytes}
use Rattle.files.specs.OriginFile.{Origin, variable_origins_at, action_origins_at, origin_variables_in, origin_actions_place, check_origin, origins_from, origin_of, variable_origin_bytes, origin_file}
use Rattle.files.specs.Reading.{under, read_origin}
use Rattle.files.specs.Accepted.{valid_signer, accepted_origin}
use Rattle.files.proofs.Done.{facts}
use Rattle.files.proofs.Listed.{origin_check_done}
use Rattle.files.proofs.ReadAs.{reads_as, read_as}
use Rattle.files.proofs.Lengths.{number_bytes_length, record_bytes_length, number_record_length, signed_length}
use Rattle.files.proofs.Stands.{stands_left, stands_right, stands_join}
use Rattle.files.proofs.RecordStands.{Recorded, recorded, record_stands}
use Rattle.files.proofs.Numbers.{numbers_length, numbers_read, numbers_stand}
use Rattle.files.proofs.ValidOrigin.{ValidOrigin, origin_valid}
use Rattle.files.proofs.Rising.{rising_under, action_origins_checked, action_origins_pass}
use Rattle.files.proofs.SignOff.{records_stand, signed_signer, signed_done, signed_off_lem, file_signed}
use Rattle.files.proofs.Origins.{OriginsRead, origins_read, origin_bytes_few, origins_checked, origins_rise, origins_end, origins_stand}

module _ (f : List ℕ) where
  pub origin_action_count : length (origin_of f).actions ≡ body_length f (origin_actions_place f) / 2
  unfolding origin_of
  origin_action_count = numbers_length f (origin_actions_place f + 4) (body_length f (origin_actions_place f) / 2)

  pub origin_read_as : (o : Origin) (signer : ℕ) → read_origin f ≡ under o signer → (check_origin f ≡ done) × (origin_of f ≡ o) × (signer_of f ≡ signer)
  unfolding read_origin
  origin_read_as o signer e =
      let parts = read_as (check_origin f) (origin_of f) (signer_of f) o signer e in
      (origin_check_done f parts.0, parts.1, parts.2)

-- origins that are written
module _ (o : Origin) (signer : ℕ) (a : accepted_origin o ≡ true) (v : valid_signer signer ≡ true) where
  abbrev written : List ℕ
  written = origin_file o signer

  abbrev variable_records : List ℕ
  variable_records = variable_origin_bytes o.variables

  abbrev action_record : List ℕ
  action_record = record_bytes 7 (number_bytes o.actions)

  valid : ValidOrigin o
  valid = origin_valid o a

  records_small : length (variable_records ++ action_record) + 12 ≤ 65536
  records_small =
      omega (
        arith,
        length-append variable_records action_record,
        number_record_length 7 o.actions,
        origin_bytes_few o.variables valid.variables,
        valid.variables_few,
        valid.actions_few,
      )

  variables_read : OriginsRead written 0 0 o.variables
  unfolding origin_file
  variables_read =
      origins_read written 0 o.variables 0
      (stands_left variable_records action_record (records_stand signer (variable_records ++ action_record)))
      valid.variables_rise
      valid.variables

  -- the record of action origins stands behind the variables
  place : records_end written 0 (length o.variables) ≡ length variable_records
  place = omega (arith, variables_read.end)

  actions_recorded : Recorded written (length variable_records) 7 (number_bytes o.actions)
  unfolding origin_file
  actions_recorded =
      recorded 7 (number_bytes o.actions)
      (stands_right variable_records action_record (omega arith) (records_stand signer (variable_records ++ action_record)))
      (omega arith)
      (omega (arith, number_bytes_length o.actions, valid.actions_few))

  count_read : origin_variables_in written ≡ length o.variables
  unfolding origin_variables_in
  count_read =
      variables_read.counted 65 (omega (arith, valid.variables_few))
      (λ e. omega (arith, actions_recorded.named, ap (kind_at written) (sym place) ∙ e))

  place_read : origin_actions_place written ≡ length variable_records
  unfolding origin_actions_place
  place_read = rw count_read place

  actions_read : numbers_from written (origin_actions_place written + 4) (body_length written (origin_actions_place written) / 2) ≡ o.actions
  actions_read =
      let count : body_length written (length variable_records) / 2 ≡ length o.actions =
      omega (arith, actions_recorded.long, number_bytes_length o.actions) in
      rw (place_read, count)
      (numbers_read 512 written o.actions (length variable_records + 4) (omega arith) actions_recorded.stands
      (rising_under 512 0 o.actions valid.actions_rise))

  origin_read_lem : origin_of written ≡ o
  unfolding origin_of
  origin_read_lem =
      let variables : origins_from written 0 (origin_variables_in written) ≡ o.variables = rw count_read variables_read.same in
      λ i. record { variables = variables i; actions = actions_read i }

  origin_done : (check_origin written).number ≡ 0
  unfolding check_origin size_fits head_at body_fits body_rule record_end origin_file
  origin_done =
      let r : Recorded written (origin_actions_place written) 7 (number_bytes o.actions) = rw place_read actions_recorded in
      let long = number_bytes_length o.actions in
      let small = records_small in
      simp facts (
        omega (arith, signed_length signer (variable_records ++ action_record)),
        (
          rw count_read variables_read.pass,
          (
            omega (arith, r.long, r.named, r.stands.room, valid.actions_few),
            (
              action_origins_pass written 0 (origin_actions_place written + 4) (body_length written (origin_actions_place written) / 2) (rw actions_read valid.actions_rise),
              signed_done signer (variable_records ++ action_record) (omega arith) v (record_end written (origin_actions_place written))
                  (omega (arith, length-append variable_records action_record, number_record_length 7 o.actions, place_read, r.long)),
            ),
          ),
        ),
      )

  pub origin_reads_back : read_origin (origin_file o signer) ≡ under o signer
  unfolding read_origin origin_file
  origin_reads_back =
      let small = records_small in
      reads_as (check_origin written) (origin_of written) (signer_of written) o signer origin_done origin_read_lem
      (signed_signer signer (variable_records ++ action_record) (omega arith) v)

-- a file whose check is done
record Checked (f : List ℕ) : Type 0 where
  variables : (variable_origins_at f 0 0 (origin_variables_in f)).number ≡ 0
  long : body_length f (origin_actions_place f) ≡ 2 * (body_length f (origin_actions_place f) / 2)
  kind : kind_at f (origin_actions_place f) ≡ 7
  room : record_end f (origin_actions_place f) ≤ length f
  actions : (action_origins_at f 0 (origin_actions_place f + 4) (body_length f (origin_actions_place f) / 2)).number ≡ 0
  sign_off : (sign_off_at f (record_end f (origin_actions_place f))).number ≡ 0

check_found : (f : List ℕ) → (check_origin f).number ≡ 0 → Checked f
unfolding check_origin size_fits head_at body_fits body_rule
check_found f e =
    let found = simp facts at e in
    record {
      variables = found.1.0;
      long = omega arith;
      kind = omega arith;
      room = omega arith;
      actions = found.1.1.1.0;
      sign_off = found.1.1.1.1;
    }

module _ (f : List ℕ) (o : Octets f) (e : (check_origin f).number ≡ 0) where
  checked : Checked f
  checked = check_found f e

  pub origin_accepted : accepted_origin (origin_of f) ≡ true
  unfolding accepted_origin origin_of
  origin_accepted =
      simp facts (
        origins_rise f 0 0 (origin_variables_in f) checked.variables,
        (
          origins_checked f 0 0 (origin_variables_in f) checked.variables,
          action_origins_checked f 0 (origin_actions_place f + 4) (body_length f (origin_actions_place f) / 2) checked.actions,
        ),
      )

  pub origin_signer_valid : valid_signer (signer_of f) ≡ true
  origin_signer_valid = (signed_off_lem f (record_end f (origin_actions_place f)) o checked.sign_off).valid

  actions_stand : Recorded f (origin_actions_place f) 7 (number_bytes (origin_of f).actions)
  unfolding origin_of record_end
  actions_stand =
      record {
        long = omega (arith, checked.long, origin_action_count f, number_bytes_length (origin_of f).actions);
        named = checked.kind;
        stands =
            numbers_stand f o (origin_actions_place f + 4) (body_length f (origin_actions_place f) / 2)
            (omega (arith, checked.long, checked.room));
      }

  variables_end : length (variable_origin_bytes (origin_of f).variables) ≡ origin_actions_place f
  unfolding origin_of origin_actions_place
  variables_end = omega (arith, origins_end f o 0 0 (origin_variables_in f) checked.variables)

  pub origin_written : f ≡ origin_file (origin_of f) (signer_of f)
  unfolding origin_file origin_of record_end
  origin_written =
      let variables = variable_origin_bytes (origin_of f).variables in
      let actions = record_bytes 7 (number_bytes (origin_of f).actions) in
      file_signed f (variables ++ actions) (record_end f (origin_actions_place f)) o
      (stands_join variables actions (omega (arith, variables_end))
      (origins_stand f o 0 0 (origin_variables_in f) (omega arith) checked.variables)
      (record_stands o actions_stand))
      (omega (
        arith,
        length-append variables actions,
        variables_end,
        record_bytes_length 7 (number_bytes (origin_of f).actions),
        actions_stand.long,
      ))
      checked.sign_off

pub origin_file_unique : (f : List ℕ) (o : Origin) (signer : ℕ) → Octets f → read_origin f ≡ under o signer → f ≡ origin_file o signer
unfolding read_origin
origin_file_unique f o signer octets e =
    let parts = read_as (check_origin f) (origin_of f) (signer_of f) o signer e in
    origin_written f octets parts.0 ∙ (λ i. origin_file (parts.1 i) (parts.2 i))
