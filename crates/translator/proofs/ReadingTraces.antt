-- A text is read by a format just as far as it is a trace of the format: what was written is read, and what is read was written.
use Prim.Native.Nat.{ℕ, ◌+◌, ◌≤◌}
use mathlib.Core.Path.{◌≡◌, refl, ap, sym, ◌∙◌}
use mathlib.Core.Bool.{true, false, ◌&&◌}
use mathlib.Core.List.{List, ◌++◌, append_assoc}
use mathlib.Core.Option.{Option, none, some}
use native.Mathlib.Omega.{arith}
use native.Mathlib.Nat.{add-zero}
use lib.ListN.{length, drop, length-append, length-drop}
use Rattle.files.specs.Outcome.{refusal}
use Rattle.files.proofs.Logic.{clash, split_option, and_split, and_join}
use Rattle.translator.specs.Fields.{Field, Value}
use Rattle.translator.specs.Format.{Fault, unsupported, given_twice, outside_limits, out_of_range, fault_number, Format, gives, field, cursor_at, cursor_refused, is_open, cursor_after, value_after}
use Rattle.translator.proofs.Written.{written, FieldRight}
use Rattle.translator.proofs.Traces.{is_fine, Trace, text_of, value_of, passed}
use Rattle.translator.proofs.ReadingSteps.{drop_behind, fault_closed, stop_closed, after_stopped, after_fine, value_fine, after_fault, field_cases}

fine_none : (o : Option Fault) → is_fine o ≡ true → o ≡ none
fine_none none e = refl
fine_none (some x) e = clash e refl

pub fault_number_lem : (x : Fault) → fault_number x ≡ 31 → ⊥
fault_number_lem unsupported e = omega arith
fault_number_lem given_twice e = omega arith
fault_number_lem outside_limits e = omega arith
fault_number_lem out_of_range e = omega arith

-- a text that goes on with a trace goes on with its first field, and then with the others
first_field : {A : Type 0} (f : Field) (fault : Value f → Option Fault) (next : Value f → Format A) (t : Trace (field f fault next)) (s rest : List ℕ) (at : ℕ)
    → drop at s ≡ text_of (field f fault next) t ++ rest → drop at s ≡ written f t.value ++ (text_of (next t.value) t.rest ++ rest)
first_field f fault next t s rest at e = e ∙ append_assoc (written f t.value) (text_of (next t.value) t.rest) rest

-- where a piece ends in a text
pub behind_within : (at : ℕ) (s piece rest : List ℕ) → at ≤ length s → drop at s ≡ piece ++ rest → at + length piece ≤ length s
behind_within at s piece rest h e = omega (arith, length-drop at s, ap (λ (l : List ℕ). length l) e, length-append piece rest)

module _ (fields : (f : Field) → FieldRight f) where
  -- a trace that nothing refuses is read
  pub reads : {A : Type 0} (f : Format A) (t : Trace f) (s rest : List ℕ) (at : ℕ) → drop at s ≡ text_of f t ++ rest → passed f t ≡ true
      → cursor_after f s (cursor_at at) ≡ cursor_at (at + length (text_of f t))
  unfolding cursor_after
  reads (gives a) t s rest at e p = ap cursor_at (sym (add-zero at))
  reads (field f fault next) t s rest at e p =
      let v : Value f = t.value in
      let text : drop at s ≡ written f v ++ (text_of (next v) t.rest ++ rest) = first_field f fault next t s rest at e in
      let both = and_split (is_fine (fault v)) (passed (next v) t.rest) p in
      after_fine fields f fault next s at v (text_of (next v) t.rest ++ rest) text t.fits (fine_none (fault v) both.0)
      ∙ reads (next v) t.rest s rest (at + length (written f v)) (drop_behind at s (written f v) (text_of (next v) t.rest ++ rest) text) both.1
      ∙ ap cursor_at (omega (arith, length-append (written f v) (text_of (next v) t.rest)))

  pub reads_value : {A : Type 0} (f : Format A) (t : Trace f) (s rest : List ℕ) (at : ℕ) → drop at s ≡ text_of f t ++ rest → passed f t ≡ true
      → value_after f s (cursor_at at) ≡ value_of f t
  unfolding value_after
  reads_value (gives a) t s rest at e p = refl
  reads_value (field f fault next) t s rest at e p =
      let v : Value f = t.value in
      let text : drop at s ≡ written f v ++ (text_of (next v) t.rest ++ rest) = first_field f fault next t s rest at e in
      let both = and_split (is_fine (fault v)) (passed (next v) t.rest) p in
      value_fine fields f fault next s at v (text_of (next v) t.rest ++ rest) text t.fits (fine_none (fault v) both.0)
      ∙ reads_value (next v) t.rest s rest (at + length (written f v)) (drop_behind at s (written f v) (text_of (next v) t.rest ++ rest) text) both.1

  -- a trace with a fault is refused for that fault
  pub faulty : {A : Type 0} (f : Format A) (t : Trace f) (s rest : List ℕ) (at : ℕ) → drop at s ≡ text_of f t ++ rest → passed f t ≡ false
      → (x : Fault) × (place : ℕ) × (cursor_after f s (cursor_at at) ≡ cursor_refused (refusal (fault_number x) place))
  faulty (gives a) t s rest at e p = clash refl p
  faulty (field f fault next) t s rest at e p =
      let v : Value f = t.value in
      let text : drop at s ≡ written f v ++ (text_of (next v) t.rest ++ rest) = first_field f fault next t s rest at e in
      split_option (fault v)
      (λ q.
      let later = faulty (next v) t.rest s rest (at + length (written f v)) (drop_behind at s (written f v) (text_of (next v) t.rest ++ rest) text)
      (sym (ap (λ (o : Option Fault). is_fine o && passed (next v) t.rest) q) ∙ p) in
      (later.0, later.1, after_fine fields f fault next s at v (text_of (next v) t.rest ++ rest) text t.fits q ∙ later.2))
      (λ x q. (x, at, after_fault fields f fault next s at v (text_of (next v) t.rest ++ rest) x text t.fits q))

  pub faulty_closed : {A : Type 0} (f : Format A) (t : Trace f) (s rest : List ℕ) (at : ℕ) → drop at s ≡ text_of f t ++ rest → passed f t ≡ false
      → is_open (cursor_after f s (cursor_at at)) ≡ false
  faulty_closed f t s rest at e p = let found = faulty f t s rest at e p in ap is_open found.2 ∙ fault_closed found.0 found.1

  -- what is read is a trace
  pub back : {A : Type 0} (f : Format A) (s : List ℕ) (at : ℕ) → at ≤ length s → is_open (cursor_after f s (cursor_at at)) ≡ true
      → (t : Trace f)
      × (passed f t ≡ true)
      × (value_of f t ≡ value_after f s (cursor_at at))
      × (drop at s ≡ text_of f t ++ drop (at + length (text_of f t)) s)
      × (cursor_after f s (cursor_at at) ≡ cursor_at (at + length (text_of f t)))
      × (at + length (text_of f t) ≤ length s)
  unfolding cursor_after value_after
  back (gives a) s at h o = (tt, refl, refl, ap (λ (n : ℕ). drop n s) (sym (add-zero at)), ap cursor_at (sym (add-zero at)), omega arith)
  back (field f fault next) s at h o =
      field_cases fields f fault s at
      (λ v text fits q.
      let end : ℕ = at + length (written f v) in
      let behind : List ℕ = drop end s in
      let onward = after_fine fields f fault next s at v behind text fits q in
      let later = back (next v) s end (behind_within at s (written f v) behind h text) (sym (ap is_open onward) ∙ o) in
      let all : List ℕ = text_of (next v) later.0 in
      let place : end + length all ≡ at + length (written f v ++ all) = omega (arith, length-append (written f v) all) in (
        record { value = v; fits = fits; rest = later.0 },
        and_join (ap is_fine q) later.1,
        later.2 ∙ sym (value_fine fields f fault next s at v behind text fits q),
        text
            ∙ ap (λ (r : List ℕ). written f v ++ r) later.3
            ∙ sym (append_assoc (written f v) all (drop (end + length all) s))
            ∙ ap (λ (n : ℕ). (written f v ++ all) ++ drop n s) place,
        onward ∙ later.4 ∙ ap cursor_at place,
        omega (arith, later.5),
      ))
      (λ v x text fits q.
      clash o (ap is_open (after_fault fields f fault next s at v (drop (at + length (written f v)) s) x text fits q) ∙ fault_closed x at))
      (λ k e u. clash o (ap is_open (after_stopped f fault next s at (at + k) e) ∙ stop_closed (at + k)))
