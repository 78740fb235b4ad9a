-- Where a text is refused with 31: a trace of the format goes on with the text up to that place, and none goes on with one byte more.
use Prim.Native.Nat.{ℕ, ◌+◌, ◌≤◌}
use mathlib.Core.Path.{◌≡◌, refl, ap, sym, subst, ◌∙◌}
use mathlib.Core.Bool.{true, false}
use mathlib.Core.List.{List, [], ◌++◌, append_assoc}
use mathlib.Core.Option.{Option, none}
use native.Mathlib.Omega.{arith}
use lib.ListN.{length, take, drop, length-append, take-append-drop}
use lib.Seq.{drop-append_seam, take-append-le, take-append-add}
use Rattle.files.specs.Outcome.{Outcome, refusal}
use Rattle.translator.specs.Cursors.{Cursor}
use Rattle.translator.specs.Fields.{Field, word, name, flag, number, signed, Value, field_value}
use Rattle.translator.specs.Format.{Fault, Format, gives, field, cursor_at, cursor_after}
use Rattle.translator.specs.Sas.{is_name}
use Rattle.translator.proofs.Written.{written, writable, Unfinished, FieldRight}
use Rattle.translator.proofs.Traces.{Trace, text_of}
use Rattle.translator.proofs.ReadingSteps.{after_stopped, after_fine, after_fault, field_cases}
use Rattle.translator.proofs.ReadingTraces.{fault_number_lem}

-- the rest r of a text goes on with a format for k bytes, and not for one more
pub record Begun {A : Type 0} (f : Format A) (r : List ℕ) (k : ℕ) : Type 0 where
  pub within : k ≤ length r
  pub trace : Trace f
  pub long : k ≤ length (text_of f trace)
  pub begun : take k (text_of f trace) ≡ take k r
  pub stops : (t : Trace f) (rest : List ℕ) → take (k + 1) (text_of f t ++ rest) ≡ take (k + 1) r → ⊥

-- every field has a value, and every format a trace
least : (f : Field) → Value f
least (word w) = tt
least name = []
least flag = false
least (number separator) = 0
least (signed separator) = none

least_writable : (f : Field) → writable f (least f) ≡ true
unfolding writable is_name least
least_writable (word w) = refl
least_writable name = refl
least_writable flag = refl
least_writable (number separator) = refl
least_writable (signed separator) = refl

some_trace : {A : Type 0} (f : Format A) → Trace f
some_trace (gives a) = tt
some_trace (field f fault next) = record { value = least f; fits = least_writable f; rest = some_trace (next (least f)) }

-- texts that begin with the same piece agree on n bytes more where their rests agree on n bytes
piece_take : (piece s r : List ℕ) (n : ℕ) → take n s ≡ take n r → take (length piece + n) (piece ++ s) ≡ take (length piece + n) (piece ++ r)
piece_take piece s r n e = take-append-add piece s n ∙ ap (λ (l : List ℕ). piece ++ l) e ∙ sym (take-append-add piece r n)

take_piece : (piece s r : List ℕ) (n : ℕ) → take (length piece + n) (piece ++ s) ≡ take (length piece + n) (piece ++ r) → take n s ≡ take n r
take_piece piece s r n e =
    sym (drop-append_seam piece (take n s))
    ∙ ap (drop (length piece)) (sym (take-append-add piece s n) ∙ e ∙ take-append-add piece r n)
    ∙ drop-append_seam piece (take n r)

-- a text that agrees with one on a piece and more begins with the piece
pub begins_with : (piece s r : List ℕ) (n : ℕ) → take (length piece + n) s ≡ take (length piece + n) (piece ++ r) → s ≡ piece ++ (take n r ++ drop (length piece + n) s)
begins_with piece s r n e =
    sym (take-append-drop (length piece + n) s)
    ∙ ap (λ (l : List ℕ). l ++ drop (length piece + n) s) (e ∙ take-append-add piece r n)
    ∙ append_assoc piece (take n r) (drop (length piece + n) s)

-- an unfinished field
begun_stopped : {A : Type 0} (f : Field) (fault : Value f → Option Fault) (next : Value f → Format A) (r : List ℕ) (k : ℕ) → Unfinished f r k → Begun (field f fault next) r k
begun_stopped f fault next r k u =
    let behind : Trace (next u.value) = some_trace (next u.value) in
    let text : List ℕ = text_of (next u.value) behind in
    record {
      within = u.within;
      trace = record { value = u.value; fits = u.fits; rest = behind };
      long = omega (arith, u.long, length-append (written f u.value) text);
      begun = take-append-le k (written f u.value) text u.long ∙ u.begun;
      stops = λ t rest e.
          u.stops t.value (text_of (next t.value) t.rest ++ rest) t.fits
          (ap (take (k + 1)) (sym (append_assoc (written f t.value) (text_of (next t.value) t.rest) rest)) ∙ e);
    }

module _ (fields : (f : Field) → FieldRight f) where
  -- a text that begins as another with a written field has that field's value
  same_value : (f : Field) (u v : Value f) (rest r : List ℕ) (n : ℕ) → writable f u ≡ true → writable f v ≡ true
      → take (length (written f v) + n) (written f u ++ rest) ≡ take (length (written f v) + n) (written f v ++ r) → v ≡ u
  same_value f u v rest r n a b e =
      let s : List ℕ = written f u ++ rest in
      sym ((fields f).states v (take n r ++ drop (length (written f v) + n) s) b)
      ∙ ap (field_value f) (sym (begins_with (written f v) s r n e))
      ∙ (fields f).states u rest a

  -- a field that is read, and then an unfinished format
  begun_behind : {A : Type 0} (f : Field) (fault : Value f → Option Fault) (next : Value f → Format A) (v : Value f) (r : List ℕ) (k : ℕ)
      → writable f v ≡ true → Begun (next v) r k → Begun (field f fault next) (written f v ++ r) (length (written f v) + k)
  begun_behind f fault next v r k w b =
      let piece : List ℕ = written f v in
      record {
        within = omega (arith, b.within, length-append piece r);
        trace = record { value = v; fits = w; rest = b.trace };
        long = omega (arith, b.long, length-append piece (text_of (next v) b.trace));
        begun = piece_take piece (text_of (next v) b.trace) r k b.begun;
        stops = λ t rest e.
            let text : List ℕ = text_of (next t.value) t.rest in
            let count : length piece + k + 1 ≡ length piece + (k + 1) = omega arith in
            let agree : take (length piece + (k + 1)) (written f t.value ++ (text ++ rest)) ≡ take (length piece + (k + 1)) (piece ++ r) =
            ap (λ (l : List ℕ). take (length piece + (k + 1)) l) (sym (append_assoc (written f t.value) text rest))
            ∙ subst (λ (n : ℕ). take n ((written f t.value ++ text) ++ rest) ≡ take n (piece ++ r)) count e in
            subst
            (λ (u : Value f). (t : Trace (next u)) → take (length piece + (k + 1)) (written f u ++ (text_of (next u) t ++ rest)) ≡ take (length piece + (k + 1)) (piece ++ r) → ⊥)
            (same_value f t.value v (text ++ rest) r (k + 1) t.fits w agree)
            (λ t q. b.stops t rest (take_piece piece (text_of (next v) t ++ rest) r (k + 1) q))
            t.rest
            agree;
      }

  pub unfinished : {A : Type 0} (f : Format A) (s : List ℕ) (at place : ℕ) → (cursor_after f s (cursor_at at)).outcome ≡ refusal 31 place
      → (k : ℕ) × (place ≡ at + k) × Begun f (drop at s) k
  unfolding cursor_after
  unfinished (gives a) s at place e = absurd (let z : ◌≡◌ {A = ℕ} 0 31 = ap (λ (o : Outcome). o.number) e in omega arith)
  unfinished (field f fault next) s at place e =
      field_cases fields f fault s at
      (λ v text fits q.
      let end : ℕ = at + length (written f v) in
      let onward = after_fine fields f fault next s at v (drop end s) text fits q in
      let later = unfinished (next v) s end place (sym (ap (λ (c : Cursor). c.outcome) onward) ∙ e) in (
        length (written f v) + later.0,
        omega (arith, later.1),
        subst (λ (r : List ℕ). Begun (field f fault next) r (length (written f v) + later.0)) (sym text) (begun_behind f fault next v (drop end s) later.0 fits later.2),
      ))
      (λ v x text fits q.
      let refused = after_fault fields f fault next s at v (drop (at + length (written f v)) s) x text fits q in
      absurd (fault_number_lem x (sym (ap (λ (c : Cursor). c.outcome.number) refused) ∙ ap (λ (o : Outcome). o.number) e)))
      (λ k q u.
      let stopped = after_stopped f fault next s at (at + k) q in
      (k, sym (ap (λ (o : Outcome). o.place) e) ∙ ap (λ (c : Cursor). c.outcome.place) stopped, begun_stopped f fault next (drop at s) k u))
