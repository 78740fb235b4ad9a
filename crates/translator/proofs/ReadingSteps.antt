-- One field of a format, read at an offset: it is read and nothing refuses its value, or its value is refused, or it is unfinished.
use Prim.Native.Nat.{ℕ, ◌+◌}
use mathlib.Core.Path.{◌≡◌, refl, ap, ap₂, sym, ◌∙◌}
use mathlib.Core.Bool.{true, false}
use mathlib.Core.List.{List, ◌++◌}
use mathlib.Core.Logic.{⊎_elim}
use mathlib.Core.Option.{Option, none, some}
use lib.ListN.{length, drop}
use lib.Seq.{drop-drop, drop-append_seam}
use Rattle.files.specs.Outcome.{Outcome, done, refusal, is_done}
use Rattle.files.proofs.Logic.{split_option}
use Rattle.translator.specs.Cursors.{Cursor}
use Rattle.translator.specs.Fields.{Field, Value, field_at, field_length, field_value}
use Rattle.translator.specs.Format.{Fault, unsupported, given_twice, outside_limits, out_of_range, fault_number, Format, field, cursor_at, cursor_refused, is_open, cursor_by, field_after, fault_after, step_after, cursor_after, value_after}
use Rattle.translator.proofs.Written.{written, writable, Unfinished, FieldRight}
use Rattle.translator.proofs.ReadingLaws.{fault_refused, after_refused}

-- what stands behind a piece of a text
pub drop_behind : (at : ℕ) (s piece rest : List ℕ) → drop at s ≡ piece ++ rest → drop (at + length piece) s ≡ rest
drop_behind at s piece rest e = sym (drop-drop (length piece) at s) ∙ ap (drop (length piece)) e ∙ drop-append_seam piece rest

-- the outcome of a field
field_goes : (f : Field) (s : List ℕ) (at : ℕ) (o : Outcome) → field_at f (drop at s) at ≡ o → field_after f s (cursor_at at) ≡ cursor_by o (at + field_length f (drop at s))
unfolding field_after is_open is_done
field_goes f s at o e = ap (λ (x : Outcome). cursor_by x (at + field_length f (drop at s))) e

pub fault_closed : (x : Fault) (at : ℕ) → is_open (cursor_refused (refusal (fault_number x) at)) ≡ false
unfolding is_open is_done
fault_closed unsupported at = refl
fault_closed given_twice at = refl
fault_closed outside_limits at = refl
fault_closed out_of_range at = refl

pub stop_closed : (place : ℕ) → is_open (cursor_refused (refusal 31 place)) ≡ false
unfolding is_open is_done
stop_closed place = refl

-- a field that is unfinished
pub after_stopped : {A : Type 0} (f : Field) (fault : Value f → Option Fault) (next : Value f → Format A) (s : List ℕ) (at place : ℕ)
    → field_at f (drop at s) at ≡ refusal 31 place → cursor_after (field f fault next) s (cursor_at at) ≡ cursor_refused (refusal 31 place)
unfolding cursor_after step_after cursor_by is_open is_done
after_stopped f fault next s at place e =
    let value : Value f = field_value f (drop at s) in
    let stopped : Cursor = cursor_refused (refusal 31 place) in
    ap (λ (c : Cursor). cursor_after (next value) s (fault_after (fault value) at c)) (field_goes f s at (refusal 31 place) e)
    ∙ ap (cursor_after (next value) s) (fault_refused (fault value) at stopped refl)
    ∙ after_refused (next value) s stopped refl

module _ (fields : (f : Field) → FieldRight f) where
  -- a field that is written for a value is read, up to the fault of that value
  value_written : (f : Field) (s : List ℕ) (at : ℕ) (v : Value f) (rest : List ℕ) → drop at s ≡ written f v ++ rest → writable f v ≡ true → field_value f (drop at s) ≡ v
  value_written f s at v rest e w = ap (field_value f) e ∙ (fields f).states v rest w

  step_written : (f : Field) (fault : Value f → Option Fault) (s : List ℕ) (at : ℕ) (v : Value f) (rest : List ℕ) (o : Option Fault)
      → drop at s ≡ written f v ++ rest → writable f v ≡ true → fault v ≡ o
      → step_after f fault s (cursor_at at) ≡ fault_after o at (cursor_at (at + length (written f v)))
  unfolding step_after cursor_by is_done
  step_written f fault s at v rest o e w q =
      ap₂ (λ (x : Option Fault) (c : Cursor). fault_after x at c)
      (ap fault (value_written f s at v rest e w) ∙ q)
      (field_goes f s at done (ap (λ (r : List ℕ). field_at f r at) e ∙ (fields f).reads v rest at w)
      ∙ ap (λ (n : ℕ). cursor_at (at + n)) (ap (field_length f) e ∙ (fields f).ends v rest w))

  -- nothing refuses the value
  pub after_fine : {A : Type 0} (f : Field) (fault : Value f → Option Fault) (next : Value f → Format A) (s : List ℕ) (at : ℕ) (v : Value f) (rest : List ℕ)
      → drop at s ≡ written f v ++ rest → writable f v ≡ true → fault v ≡ none
      → cursor_after (field f fault next) s (cursor_at at) ≡ cursor_after (next v) s (cursor_at (at + length (written f v)))
  unfolding cursor_after fault_after
  after_fine f fault next s at v rest e w q =
      ap₂ (λ (u : Value f) (c : Cursor). cursor_after (next u) s c) (value_written f s at v rest e w) (step_written f fault s at v rest none e w q)

  pub value_fine : {A : Type 0} (f : Field) (fault : Value f → Option Fault) (next : Value f → Format A) (s : List ℕ) (at : ℕ) (v : Value f) (rest : List ℕ)
      → drop at s ≡ written f v ++ rest → writable f v ≡ true → fault v ≡ none
      → value_after (field f fault next) s (cursor_at at) ≡ value_after (next v) s (cursor_at (at + length (written f v)))
  unfolding value_after fault_after
  value_fine f fault next s at v rest e w q =
      ap₂ (λ (u : Value f) (c : Cursor). value_after (next u) s c) (value_written f s at v rest e w) (step_written f fault s at v rest none e w q)

  -- the value is refused
  pub after_fault : {A : Type 0} (f : Field) (fault : Value f → Option Fault) (next : Value f → Format A) (s : List ℕ) (at : ℕ) (v : Value f) (rest : List ℕ) (x : Fault)
      → drop at s ≡ written f v ++ rest → writable f v ≡ true → fault v ≡ some x
      → cursor_after (field f fault next) s (cursor_at at) ≡ cursor_refused (refusal (fault_number x) at)
  unfolding cursor_after fault_after is_open is_done
  after_fault f fault next s at v rest x e w q =
      let value : Value f = field_value f (drop at s) in
      ap (cursor_after (next value) s) (step_written f fault s at v rest (some x) e w q)
      ∙ after_refused (next value) s (cursor_refused (refusal (fault_number x) at)) (fault_closed x at)

  -- every field is one of the three
  pub field_cases {ℓ} : {X : Type ℓ} (f : Field) (fault : Value f → Option Fault) (s : List ℕ) (at : ℕ)
      → ((v : Value f) → drop at s ≡ written f v ++ drop (at + length (written f v)) s → writable f v ≡ true → fault v ≡ none → X)
      → ((v : Value f) (x : Fault) → drop at s ≡ written f v ++ drop (at + length (written f v)) s → writable f v ≡ true → fault v ≡ some x → X)
      → ((k : ℕ) → field_at f (drop at s) at ≡ refusal 31 (at + k) → Unfinished f (drop at s) k → X)
      → X
  field_cases f fault s at fine faulty stopped =
      ⊎_elim
      (λ e.
      let v : Value f = field_value f (drop at s) in
      let text : drop at s ≡ written f v ++ drop (at + length (written f v)) s =
      (fields f).back (drop at s) at e
      ∙ ap (λ (r : List ℕ). written f v ++ r)
      (drop-drop (field_length f (drop at s)) at s ∙ ap (λ (n : ℕ). drop (at + n) s) ((fields f).long (drop at s) at e)) in
      split_option (fault v) (fine v text ((fields f).fits (drop at s) at e)) (λ x. faulty v x text ((fields f).fits (drop at s) at e)))
      (λ u. stopped u.0 u.1 u.2)
      ((fields f).form (drop at s) at)
