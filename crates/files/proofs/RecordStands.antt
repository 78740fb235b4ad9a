-- Records that stand at a place of a file: what is read there, and what was written there.
use Prim.Native.Nat.{ℕ, ◌+◌, ◌<◌}
use mathlib.Core.Path.{◌≡◌}
use mathlib.Core.List.{List, ◌++◌}
use native.Mathlib.Omega.{arith}
use lib.ListN.{length}
use Rattle.files.specs.Bytes.{Octets, u16_bytes}
use Rattle.files.specs.Records.{body_length, kind_at, record_bytes}
use Rattle.files.proofs.Stands.{Stands, stands_left, stands_right, stands_join, stands_u16, u16_stands}

-- a record that is read at a place
pub record Recorded (f : List ℕ) (at kind : ℕ) (body : List ℕ) : Type 0 where
  pub long : body_length f at ≡ length body
  pub named : kind_at f at ≡ kind
  pub stands : Stands f (at + 4) body

pub recorded : {f : List ℕ} {at : ℕ} (kind : ℕ) (body : List ℕ) → Stands f at (record_bytes kind body) → kind < 65536 → length body < 65536 → Recorded f at kind body
unfolding record_bytes body_length kind_at u16_bytes
recorded {f} {at} kind body s k l =
    let head = stands_left (u16_bytes (length body) ++ u16_bytes kind) body s in
    record {
      long = stands_u16 (length body) (stands_left (u16_bytes (length body)) (u16_bytes kind) head) l;
      named = stands_u16 kind (stands_right (u16_bytes (length body)) (u16_bytes kind) (omega arith) head) k;
      stands = stands_right (u16_bytes (length body) ++ u16_bytes kind) body (omega arith) s;
    }

pub record_stands : {f : List ℕ} → Octets f → {at kind : ℕ} {body : List ℕ} → Recorded f at kind body → Stands f at (record_bytes kind body)
unfolding record_bytes body_length kind_at u16_bytes
record_stands {f} o {at} {kind} {body} r =
    let long : Stands f at (u16_bytes (length body)) = rw r.long at (u16_stands f o at (omega (arith, r.stands.room))) in
    let named : Stands f (at + 2) (u16_bytes kind) = rw r.named at (u16_stands f o (at + 2) (omega (arith, r.stands.room))) in
    stands_join (u16_bytes (length body) ++ u16_bytes kind) body (omega arith)
    (stands_join (u16_bytes (length body)) (u16_bytes kind) (omega arith) long named)
    r.stands
