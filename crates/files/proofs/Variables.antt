-- Variables that stand in a row: what is read there, what was written there, and that they are valid.
use Prim.Native.Nat.{ℕ, zero, suc, ◌+◌, ◌*◌, ◌≤◌, ◌<◌}
use mathlib.Core.Path.{◌≡◌, refl, ap, ◌∙◌}
use mathlib.Core.Bool.{true}
use mathlib.Core.List.{List, [], ◌∷◌, ◌++◌}
use native.Mathlib.Omega.{arith}
use lib.ListN.{length, get_or}
use Rattle.files.specs.Below.{all_of}
use Rattle.files.specs.Bytes.{Octets, u16_at, u16_bytes}
use Rattle.files.specs.Records.{record_end, body_rule, body_fits, head_at, record_bytes}
use Rattle.files.specs.Task.{Variable, Task, variable, variable_count, size_of}
use Rattle.files.specs.TaskFile.{variables_in, variable_place, size_at, variable_at, variables_at, variables_from, variable_bytes}
use Rattle.files.specs.Accepted.{valid_variable}
use Rattle.files.proofs.Done.{facts}
use Rattle.files.proofs.Stands.{Stands, stands_none, stands_left, stands_right, stands_join, stands_u16, u16_stands}
use Rattle.files.proofs.RecordStands.{recorded, record_stands}

abbrev variable_body : Variable → List ℕ
variable_body v = u16_bytes v.size ++ u16_bytes v.start

abbrev variable_read : List ℕ → ℕ → Variable
variable_read f at = variable (u16_at f (at + 4)) (u16_at f (at + 6))

pub variables_length : (s : List ℕ) (at count : ℕ) → length (variables_from s at count) ≡ count
unfolding variables_from
variables_length s at zero = refl
variables_length s at (suc count) = ap suc (variables_length s (at + 8) count)

module _ (f : List ℕ) where
  -- a variable whose check is done
  variable_stands : Octets f → (at : ℕ) → (variable_at f at).number ≡ 0 → Stands f at (record_bytes 2 (variable_body (variable_read f at)))
  unfolding variable_at head_at body_fits body_rule record_end u16_bytes
  variable_stands o at e =
      let found = simp facts at e in
      record_stands o
      (record {
        long = omega arith;
        named = omega arith;
        stands =
            stands_join (u16_bytes (u16_at f (at + 4))) (u16_bytes (u16_at f (at + 6))) (omega arith)
            (u16_stands f o (at + 4) (omega arith))
            (u16_stands f o (at + 6) (omega arith));
      })

  variable_checked : (at : ℕ) → (variable_at f at).number ≡ 0 → valid_variable (variable_read f at) ≡ true
  unfolding variable_at valid_variable
  variable_checked at e = let found = simp facts at e in simp facts (omega arith)

  pub variables_stand : Octets f → (at count : ℕ) → at ≤ length f → (variables_at f at count).number ≡ 0 → Stands f at (variable_bytes (variables_from f at count))
  unfolding variables_at variables_from variable_bytes record_bytes u16_bytes
  variables_stand o at zero h e = stands_none f at h
  variables_stand o at (suc count) h e =
      let found = simp facts at e in
      let first = variable_stands o at found.0 in
      stands_join (record_bytes 2 (variable_body (variable_read f at))) (variable_bytes (variables_from f (at + 8) count)) (omega arith) first
      (variables_stand o (at + 8) count (omega (arith, first.room)) found.1)

  pub variables_checked : (at count : ℕ) → (variables_at f at count).number ≡ 0 → all_of valid_variable (variables_from f at count) ≡ true
  unfolding variables_at variables_from
  variables_checked at zero e = refl
  variables_checked at (suc count) e =
      let found = simp facts at e in
      simp facts (variable_checked at found.0, variables_checked (at + 8) count found.1)

  -- a variable that stands
  record VariableRead (at : ℕ) (v : Variable) : Type 0 where
    pass : (variable_at f at).number ≡ 0
    same : variable_read f at ≡ v

  variable_read_lem : (at : ℕ) (v : Variable) → Stands f at (record_bytes 2 (variable_body v)) → valid_variable v ≡ true → VariableRead at v
  unfolding valid_variable u16_bytes variable_at head_at body_fits body_rule record_end
  variable_read_lem at v s h =
      let valid = simp facts at h in
      let r = recorded 2 (variable_body v) s (omega arith) (omega arith) in
      let size : u16_at f (at + 4) ≡ v.size =
      stands_u16 v.size (stands_left (u16_bytes v.size) (u16_bytes v.start) r.stands) (omega arith) in
      let start : u16_at f (at + 6) ≡ v.start =
      stands_u16 v.start (stands_right (u16_bytes v.size) (u16_bytes v.start) (omega arith) r.stands) (omega arith) in
      record { pass = simp facts (omega (arith, r.stands.room)); same = λ i. variable (size i) (start i) }

  pub variables_read : (vs : List Variable) (at : ℕ) → Stands f at (variable_bytes vs) → all_of valid_variable vs ≡ true → variables_from f at (length vs) ≡ vs
  unfolding variables_from variable_bytes record_bytes u16_bytes
  variables_read [] at s h = refl
  variables_read (v ∷ vs) at s h =
      let valid = simp facts at h in
      let first = variable_read_lem at v (stands_left (record_bytes 2 (variable_body v)) (variable_bytes vs) s) valid.0 in
      let rest = variables_read vs (at + 8) (stands_right (record_bytes 2 (variable_body v)) (variable_bytes vs) (omega arith) s) valid.1 in
      λ i. first.same i ∷ rest i

  pub variables_pass : (vs : List Variable) (at : ℕ) → Stands f at (variable_bytes vs) → all_of valid_variable vs ≡ true → (variables_at f at (length vs)).number ≡ 0
  unfolding variables_at variable_bytes record_bytes u16_bytes
  variables_pass [] at s h = refl
  variables_pass (v ∷ vs) at s h =
      let valid = simp facts at h in
      let first = variable_read_lem at v (stands_left (record_bytes 2 (variable_body v)) (variable_bytes vs) s) valid.0 in
      simp facts
      (first.pass, variables_pass vs (at + 8) (stands_right (record_bytes 2 (variable_body v)) (variable_bytes vs) (omega arith) s) valid.1)

  -- the size of a variable, by its number
  size_read : (at count v : ℕ) → v < count → u16_at f (at + 8 * v + 4) ≡ (get_or (variables_from f at count) v (variable 0 0)).size
  unfolding variables_from
  size_read at zero v h = absurd (omega arith)
  size_read at (suc count) zero h = ap (u16_at f) (omega arith)
  size_read at (suc count) (suc v) h = ap (u16_at f) (omega arith) ∙ size_read (at + 8) count v (omega arith)

-- a file that states the variables of a task
pub record States (f : List ℕ) (t : Task) : Type 0 where
  pub count : variables_in f ≡ variable_count t
  pub size : (v : ℕ) → v < variable_count t → size_at f v ≡ size_of t v

pub states : (f : List ℕ) (t : Task) → variables_in f ≡ variable_count t → variables_from f 8 (variables_in f) ≡ t.variables → States f t
unfolding size_at variable_place
states f t c e =
    record {
      count = c;
      size =
          λ v h. ap (u16_at f) (omega arith)
          ∙ size_read f 8 (variables_in f) v (omega arith)
          ∙ ap (λ (vs : List Variable). (get_or vs v (variable 0 0)).size) e;
    }
