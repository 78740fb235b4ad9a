-- A text is read within its length, and each outcome of reading it is listed: done, or a refusal of the text at a place in it.
use Prim.Native.Nat.{ℕ, ◌+◌, ◌≤◌}
use mathlib.Core.Path.{◌≡◌, refl, ap, ◌∙◌}
use mathlib.Core.Bool.{true}
use mathlib.Core.List.{List}
use mathlib.Core.Option.{Option}
use native.Mathlib.Omega.{arith}
use lib.ListN.{length, drop, length-drop}
use borrow.Author.Tests.{le-leb}
use Rattle.files.specs.Listed.{listed}
use Rattle.files.specs.Listed as files
use Rattle.files.specs.Outcome.{done, refusal, is_done}
use Rattle.files.proofs.Listed.{listed_done}
use Rattle.files.proofs.Logic.{split}
use Rattle.translator.specs.Cursors.{Cursor}
use Rattle.translator.specs.Fields.{Field, Value}
use Rattle.translator.specs.Format.{Fault, unsupported, given_twice, outside_limits, out_of_range, fault_number, Format, gives, field, cursor_at, is_open, field_after, step_after, cursor_after}
use Rattle.translator.specs.Translate.{text_refusals}
use Rattle.translator.proofs.Written.{written, FieldRight}
use Rattle.translator.proofs.ReadingLaws.{after_refused}
use Rattle.translator.proofs.ReadingSteps.{after_stopped, after_fine, after_fault, field_cases}
use Rattle.translator.proofs.ReadingTraces.{behind_within}

pub stop_listed : (s : List ℕ) (place : ℕ) → place ≤ length s → listed (text_refusals s) (refusal 31 place) ≡ true
unfolding listed is_done files.gives
stop_listed s place h = rw (le-leb place (length s) h) refl

pub fault_listed : (s : List ℕ) (x : Fault) (place : ℕ) → place ≤ length s → listed (text_refusals s) (refusal (fault_number x) place) ≡ true
unfolding listed is_done files.gives
fault_listed s unsupported place h = rw (le-leb place (length s) h) refl
fault_listed s given_twice place h = rw (le-leb place (length s) h) refl
fault_listed s outside_limits place h = rw (le-leb place (length s) h) refl
fault_listed s out_of_range place h = rw (le-leb place (length s) h) refl

pub cursor_open : (at : ℕ) → is_open (cursor_at at) ≡ true
unfolding is_open is_done
cursor_open at = refl

-- an open cursor is read on from its offset
field_open : {A : Type 0} (f : Field) (fault : Value f → Option Fault) (next : Value f → Format A) (s : List ℕ) (c : Cursor)
    → is_open c ≡ true → cursor_after (field f fault next) s c ≡ cursor_after (field f fault next) s (cursor_at c.at)
unfolding cursor_after step_after field_after
field_open f fault next s c e = rw (e, cursor_open c.at) refl

module _ (fields : (f : Field) → FieldRight f) where
  within_from : {A : Type 0} (f : Format A) (s : List ℕ) (at : ℕ) → at ≤ length s → (cursor_after f s (cursor_at at)).at ≤ length s
  unfolding cursor_after
  within_from (gives a) s at h = h
  within_from (field f fault next) s at h =
      field_cases fields f fault s at
      (λ v text fits q.
      let behind : List ℕ = drop (at + length (written f v)) s in
      let later = within_from (next v) s (at + length (written f v)) (behind_within at s (written f v) behind h text) in
      omega (arith, ap (λ (c : Cursor). c.at) (after_fine fields f fault next s at v behind text fits q)))
      (λ v x text fits q. omega (arith, ap (λ (c : Cursor). c.at) (after_fault fields f fault next s at v (drop (at + length (written f v)) s) x text fits q)))
      (λ k e u. omega (arith, ap (λ (c : Cursor). c.at) (after_stopped f fault next s at (at + k) e)))

  pub after_within : {A : Type 0} (f : Format A) (s : List ℕ) (c : Cursor) → c.at ≤ length s → (cursor_after f s c).at ≤ length s
  unfolding cursor_after
  after_within (gives a) s c h = h
  after_within (field f fault next) s c h =
      split (is_open c)
      (λ e. omega (arith, within_from (field f fault next) s c.at h, ap (λ (d : Cursor). d.at) (field_open f fault next s c e)))
      (λ e. omega (arith, ap (λ (d : Cursor). d.at) (after_refused (field f fault next) s c e)))

  listed_from : {A : Type 0} (f : Format A) (s : List ℕ) (at : ℕ) → at ≤ length s → listed (text_refusals s) (cursor_after f s (cursor_at at)).outcome ≡ true
  unfolding cursor_after
  listed_from (gives a) s at h = listed_done (text_refusals s)
  listed_from (field f fault next) s at h =
      field_cases fields f fault s at
      (λ v text fits q.
      let behind : List ℕ = drop (at + length (written f v)) s in
      ap (λ (c : Cursor). listed (text_refusals s) c.outcome) (after_fine fields f fault next s at v behind text fits q)
      ∙ listed_from (next v) s (at + length (written f v)) (behind_within at s (written f v) behind h text))
      (λ v x text fits q.
      ap (λ (c : Cursor). listed (text_refusals s) c.outcome) (after_fault fields f fault next s at v (drop (at + length (written f v)) s) x text fits q)
      ∙ fault_listed s x at h)
      (λ k e u.
      ap (λ (c : Cursor). listed (text_refusals s) c.outcome) (after_stopped f fault next s at (at + k) e)
      ∙ stop_listed s (at + k) (omega (arith, u.within, length-drop at s)))

  pub after_listed : {A : Type 0} (f : Format A) (s : List ℕ) (c : Cursor) → c.outcome ≡ done → c.at ≤ length s
      → listed (text_refusals s) (cursor_after f s c).outcome ≡ true
  after_listed f s c e h =
      let from : c ≡ cursor_at c.at = λ i. record { outcome = e i; at = c.at } in
      ap (λ (d : Cursor). listed (text_refusals s) (cursor_after f s d).outcome) from ∙ listed_from f s c.at h
