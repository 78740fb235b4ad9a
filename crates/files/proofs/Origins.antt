-- Variable origins that stand in a row: what is read there, what was written there, and that they are valid.
use Prim.Native.Nat.{ℕ, zero, suc, ◌+◌, ◌*◌, ◌≤◌, ◌<◌}
use mathlib.Core.Path.{◌≡◌, refl, ap, ◌∙◌}
use mathlib.Core.Bool.{true}
use mathlib.Core.List.{List, [], ◌∷◌}
use native.Mathlib.Omega.{arith}
use native.Mathlib.Nat.{add-zero}
use lib.ListN.{length, length-append}
use borrow.Author.Tests.{eq-eqb, ne_eqb}
use Rattle.files.specs.Below.{all_of}
use Rattle.files.specs.Bytes.{Octets, u16_at, u16_bytes}
use Rattle.files.specs.Records.{kind_at, record_end, records_end, body_rule, body_fits, head_at, numbers_from, number_bytes, record_bytes}
use Rattle.files.specs.OriginFile.{VariableOrigin, values_in, variable_origin_at, variable_origins_at, variable_origins_from, origins_from, origin_body, variable_origin_bytes}
use Rattle.files.specs.Accepted.{rising, valid_values}
use Rattle.files.proofs.Done.{facts}
use Rattle.files.proofs.Lengths.{number_bytes_length, record_bytes_length, origin_body_length}
use Rattle.files.proofs.Stands.{Stands, stands_none, stands_left, stands_right, stands_join, stands_u16, u16_stands}
use Rattle.files.proofs.RecordStands.{Recorded, recorded, record_stands}
use Rattle.files.proofs.ValidOrigin.{numbers_of}
use Rattle.files.proofs.Numbers.{numbers_length, numbers_read, numbers_under, under_numbers, numbers_stand}

abbrev origin_read : List ℕ → ℕ → VariableOrigin
origin_read f at = record { variable = u16_at f (at + 4); values = numbers_from f (at + 6) (values_in f at) }

-- each record has at most 32 values
pub origin_bytes_few : (vs : List VariableOrigin) → all_of valid_values vs ≡ true → length (variable_origin_bytes vs) ≤ 70 * length vs
unfolding variable_origin_bytes valid_values
origin_bytes_few [] h = omega arith
origin_bytes_few (v ∷ vs) h =
    let valid = simp facts at h in
    omega (
      arith,
      origin_body_length v,
      record_bytes_length 6 (origin_body v),
      length-append (record_bytes 6 (origin_body v)) (variable_origin_bytes vs),
      origin_bytes_few vs valid.1,
    )

module _ (f : List ℕ) where
  -- a variable origin whose check is done
  module _ (at_least at : ℕ) (e : (variable_origin_at f at_least at).number ≡ 0) where
    origin_recorded : Octets f → Recorded f at 6 (origin_body (origin_read f at))
    unfolding variable_origin_at head_at body_fits body_rule record_end values_in origin_body u16_bytes
    origin_recorded o =
        let found = simp facts at e in
        let count = numbers_length f (at + 6) (values_in f at) in
        let long = number_bytes_length (numbers_from f (at + 6) (values_in f at)) in
        record {
          long = omega arith;
          named = omega arith;
          stands =
              stands_join (u16_bytes (u16_at f (at + 4))) (number_bytes (numbers_from f (at + 6) (values_in f at))) (omega arith)
              (u16_stands f o (at + 4) (omega arith))
              (numbers_stand f o (at + 6) (values_in f at) (omega arith));
        }

    origin_checked : valid_values (origin_read f at) ≡ true
    unfolding variable_origin_at head_at body_fits body_rule values_in valid_values
    origin_checked =
        let found = simp facts at e in
        let count = numbers_length f (at + 6) (values_in f at) in
        simp facts (omega arith, (omega arith, numbers_under 32 f (at + 6) (values_in f at) found.1.1.1))

  pub origins_checked : (at_least at count : ℕ) → (variable_origins_at f at_least at count).number ≡ 0 → all_of valid_values (origins_from f at count) ≡ true
  unfolding variable_origins_at origins_from
  origins_checked at_least at zero e = refl
  origins_checked at_least at (suc count) e =
      let found = simp facts at e in
      simp facts (origin_checked at_least at found.0, origins_checked (u16_at f (at + 4) + 1) (record_end f at) count found.1)

  pub origins_rise : (at_least at count : ℕ) → (variable_origins_at f at_least at count).number ≡ 0 → rising 64 at_least (numbers_of (origins_from f at count)) ≡ true
  unfolding variable_origins_at variable_origin_at origins_from rising
  origins_rise at_least at zero e = refl
  origins_rise at_least at (suc count) e =
      let found = simp facts at e in
      simp facts (found.0.1.0, (found.0.1.1.0, origins_rise (u16_at f (at + 4) + 1) (record_end f at) count found.1))

  module _ (o : Octets f) where
    pub origins_end : (at_least at count : ℕ) → (variable_origins_at f at_least at count).number ≡ 0 → at + length (variable_origin_bytes (origins_from f at count)) ≡ records_end f at count
    unfolding variable_origins_at origins_from variable_origin_bytes records_end record_end
    origins_end at_least at zero e = add-zero at
    origins_end at_least at (suc count) e =
        let found = simp facts at e in
        let first = origin_body (origin_read f at) in
        omega (
          arith,
          (origin_recorded at_least at found.0 o).long,
          record_bytes_length 6 first,
          length-append (record_bytes 6 first) (variable_origin_bytes (origins_from f (record_end f at) count)),
          origins_end (u16_at f (at + 4) + 1) (record_end f at) count found.1,
        )

    pub origins_stand : (at_least at count : ℕ) → at ≤ length f → (variable_origins_at f at_least at count).number ≡ 0 → Stands f at (variable_origin_bytes (origins_from f at count))
    unfolding variable_origins_at origins_from variable_origin_bytes record_end
    origins_stand at_least at zero h e = stands_none f at h
    origins_stand at_least at (suc count) h e =
        let found = simp facts at e in
        let first = origin_body (origin_read f at) in
        let r = origin_recorded at_least at found.0 o in
        let long = record_bytes_length 6 first in
        stands_join (record_bytes 6 first) (variable_origin_bytes (origins_from f (record_end f at) count)) (omega (arith, r.long)) (record_stands o r)
        (origins_stand (u16_at f (at + 4) + 1) (record_end f at) count (omega (arith, r.long, r.stands.room)) found.1)

  -- a variable origin that stands
  record OriginRead (at_least at : ℕ) (v : VariableOrigin) : Type 0 where
    pass : (variable_origin_at f at_least at).number ≡ 0
    same : origin_read f at ≡ v
    kind : kind_at f at ≡ 6
    end : record_end f at ≡ at + length (record_bytes 6 (origin_body v))

  origin_read_lem : (at_least at : ℕ) (v : VariableOrigin) → Stands f at (record_bytes 6 (origin_body v)) → at_least ≤ v.variable → v.variable < 64 → valid_values v ≡ true → OriginRead at_least at v
  unfolding variable_origin_at head_at body_fits body_rule record_end values_in origin_body valid_values u16_bytes
  origin_read_lem at_least at v s l k h =
      let valid = simp facts at h in
      let long = origin_body_length v in
      let r = recorded 6 (origin_body v) s (omega arith) (omega arith) in
      let variable : u16_at f (at + 4) ≡ v.variable =
      stands_u16 v.variable (stands_left (u16_bytes v.variable) (number_bytes v.values) r.stands) (omega arith) in
      let count : values_in f at ≡ length v.values = omega (arith, r.long) in
      let values : numbers_from f (at + 6) (values_in f at) ≡ v.values =
      rw count
      (numbers_read 32 f v.values (at + 6) (omega arith)
      (stands_right (u16_bytes v.variable) (number_bytes v.values) (omega arith) r.stands)
      valid.1.1) in
      record {
        pass =
            simp facts (
              omega (arith, r.long, r.named, r.stands.room),
              (
                omega arith,
                (
                  omega arith,
                  under_numbers 32 f (at + 6) (values_in f at) (rw values valid.1.1),
                ),
              ),
            );
        same = λ i. record { variable = variable i; values = values i };
        kind = r.named;
        end = omega (arith, record_bytes_length 6 (origin_body v), r.long);
      }

  -- records of kind 6 are counted up to the first of another kind
  none_counted : (at bound : ℕ) → (kind_at f at ≡ 6 → ⊥) → variable_origins_from f at bound ≡ 0
  unfolding variable_origins_from
  none_counted at zero d = refl
  none_counted at (suc bound) d = rw (ne_eqb (kind_at f at) 6 d) refl

  one_counted : (at bound n : ℕ) → kind_at f at ≡ 6 → suc n < bound → ((b : ℕ) → n < b → variable_origins_from f (record_end f at) b ≡ n) → variable_origins_from f at bound ≡ suc n
  unfolding variable_origins_from
  one_counted at zero n k l rest = absurd (omega arith)
  one_counted at (suc bound) n k l rest = rw (eq-eqb (kind_at f at) 6 k) (ap suc (rest bound (omega arith)))

  -- variable origins that stand in a row, with another kind of record behind them
  pub record OriginsRead (at_least at : ℕ) (vs : List VariableOrigin) : Type 0 where
    pub pass : (variable_origins_at f at_least at (length vs)).number ≡ 0
    pub same : origins_from f at (length vs) ≡ vs
    pub end : records_end f at (length vs) ≡ at + length (variable_origin_bytes vs)
    pub counted : (bound : ℕ) → length vs < bound → (kind_at f (records_end f at (length vs)) ≡ 6 → ⊥) → variable_origins_from f at bound ≡ length vs

  pub origins_read : (at_least : ℕ) (vs : List VariableOrigin) (at : ℕ) → Stands f at (variable_origin_bytes vs) → rising 64 at_least (numbers_of vs) ≡ true → all_of valid_values vs ≡ true → OriginsRead at_least at vs
  unfolding variable_origins_at origins_from records_end variable_origin_bytes rising
  origins_read at_least [] at s h g = record { pass = refl; same = refl; end = omega arith; counted = λ bound l d. none_counted at bound d }
  origins_read at_least (v ∷ vs) at s h g =
      let rises = simp facts at h in
      let valid = simp facts at g in
      let first = origin_read_lem at_least at v (stands_left (record_bytes 6 (origin_body v)) (variable_origin_bytes vs) s) rises.0 rises.1.0 valid.0 in
      let next : u16_at f (at + 4) ≡ v.variable = ap (λ (w : VariableOrigin). w.variable) first.same in
      let rest =
      origins_read (v.variable + 1) vs (record_end f at)
      (stands_right (record_bytes 6 (origin_body v)) (variable_origin_bytes vs) first.end s)
      rises.1.1
      valid.1 in
      record {
        pass = simp facts (first.pass, rw next rest.pass);
        same = λ i. first.same i ∷ rest.same i;
        end = rest.end ∙ omega (arith, first.end, length-append (record_bytes 6 (origin_body v)) (variable_origin_bytes vs));
        counted = λ bound l d. one_counted at bound (length vs) first.kind l (λ b m. rest.counted b m d);
      }
