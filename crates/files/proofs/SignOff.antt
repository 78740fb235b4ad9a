-- Signed files: the sign-off that stands behind the records, what is read there, and what a check has found there.
use Prim.Native.Nat.{ℕ, ◌+◌, ◌≤◌}
use mathlib.Core.Path.{◌≡◌, ap, ◌∙◌}
use mathlib.Core.Bool.{true}
use mathlib.Core.List.{List, ◌++◌}
use native.Mathlib.Omega.{arith}
use lib.ListN.{length}
use Rattle.files.specs.Bytes.{Octets, u32_at, u16_bytes, u32_bytes}
use Rattle.files.specs.Records.{record_end, body_rule, body_fits, head_at, sign_off_at, signer_of, record_bytes, signed}
use Rattle.files.specs.Accepted.{valid_signer}
use Rattle.files.proofs.Done.{facts}
use Rattle.files.proofs.Lengths.{signed_length}
use Rattle.files.proofs.Stands.{Stands, whole_stands, stands_whole, stands_left, stands_right, stands_join, stands_u32, u32_stands, u32_below}
use Rattle.files.proofs.RecordStands.{recorded, record_stands}

-- the sign-off of records of so many bytes
abbrev pub sign_off_bytes : ℕ → ℕ → List ℕ
sign_off_bytes signer count = record_bytes 5 (u32_bytes signer ++ u32_bytes count)

-- the sign-off that stands at the end of a file
module _ {f : List ℕ} {at : ℕ} (signer : ℕ) (s : Stands f at (sign_off_bytes signer at)) (end : length f ≡ at + 12) (small : at ≤ 65536) (valid : valid_signer signer ≡ true) where
  signer_read : u32_at f (at + 4) ≡ signer
  unfolding u32_bytes u16_bytes valid_signer
  signer_read =
      let r = recorded 5 (u32_bytes signer ++ u32_bytes at) s (omega arith) (omega arith) in
      let bounds = simp facts at valid in
      stands_u32 signer (stands_left (u32_bytes signer) (u32_bytes at) r.stands) (omega arith)

  sign_off_signer : signer_of f ≡ signer
  unfolding signer_of
  sign_off_signer = ap (u32_at f) (omega arith) ∙ signer_read

  sign_off_done : (sign_off_at f at).number ≡ 0
  unfolding sign_off_at head_at body_fits body_rule record_end u32_bytes u16_bytes valid_signer
  sign_off_done =
      let r = recorded 5 (u32_bytes signer ++ u32_bytes at) s (omega arith) (omega arith) in
      let bounds = simp facts at valid in
      let count : u32_at f (at + 8) ≡ at = stands_u32 at (stands_right (u32_bytes signer) (u32_bytes at) (omega arith) r.stands) (omega arith) in
      simp facts (omega (arith, signer_read))

-- a file that is signed: its records, and its sign-off behind them
module _ (signer : ℕ) (records : List ℕ) where
  pub records_stand : Stands (signed signer records) 0 records
  unfolding signed
  records_stand = stands_left records (sign_off_bytes signer (length records)) (whole_stands (signed signer records))

  sign_off_behind : Stands (signed signer records) (length records) (sign_off_bytes signer (length records))
  unfolding signed
  sign_off_behind = stands_right records (sign_off_bytes signer (length records)) (omega arith) (whole_stands (signed signer records))

  module _ (small : length records ≤ 65536) (valid : valid_signer signer ≡ true) where
    pub signed_signer : signer_of (signed signer records) ≡ signer
    signed_signer = sign_off_signer signer sign_off_behind (signed_length signer records) small valid

    pub signed_done : (at : ℕ) → length records ≡ at → (sign_off_at (signed signer records) at).number ≡ 0
    signed_done at e = rw (← e) (sign_off_done signer sign_off_behind (signed_length signer records) small valid)

-- a check that has found the sign-off
pub record SignedOff (f : List ℕ) (at : ℕ) : Type 0 where
  pub stands : Stands f at (sign_off_bytes (signer_of f) at)
  pub end : length f ≡ at + 12
  pub valid : valid_signer (signer_of f) ≡ true

pub signed_off_lem : (f : List ℕ) (at : ℕ) → Octets f → (sign_off_at f at).number ≡ 0 → SignedOff f at
unfolding sign_off_at head_at body_fits body_rule record_end signer_of valid_signer u32_bytes u16_bytes
signed_off_lem f at o e =
    let found = simp facts at e in
    let same : u32_at f (at + 4) ≡ signer_of f = ap (u32_at f) (omega arith) in
    let signer : Stands f (at + 4) (u32_bytes (signer_of f)) = rw same at (u32_stands f o (at + 4) (omega arith)) in
    let count : Stands f (at + 8) (u32_bytes at) = rw found.1.1.0 at (u32_stands f o (at + 8) (omega arith)) in
    record {
      stands =
          record_stands o
          (record {
            long = omega arith;
            named = omega arith;
            stands = stands_join (u32_bytes (signer_of f)) (u32_bytes at) (omega arith) signer count;
          });
      end = omega arith;
      valid = rw (← same) (simp facts (omega (arith, u32_below f o (at + 4))));
    }

-- so the file is its records, signed
pub file_signed : (f records : List ℕ) (at : ℕ) → Octets f → Stands f 0 records → length records ≡ at → (sign_off_at f at).number ≡ 0 → f ≡ signed (signer_of f) records
unfolding signed
file_signed f records at o s l e =
    let off = signed_off_lem f (length records) o (rw l e) in
    stands_whole f (records ++ sign_off_bytes (signer_of f) (length records))
    (stands_join records (sign_off_bytes (signer_of f) (length records)) (omega arith) s off.stands)
    (omega (arith, off.end, signed_length (signer_of f) records))
