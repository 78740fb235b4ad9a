-- Cursors stand in the text, and formats are read behind a number where it was read.
use Prim.Native.Nat.{ℕ}
use mathlib.Core.Path.{◌≡◌, refl, sym, ap, subst, ◌∙◌}
use mathlib.Core.Bool.{true, cond}
use mathlib.Core.List.{List}
use native.Mathlib.Omega.{arith}
use Rattle.files.proofs.Logic.{split}
use Rattle.translator.specs.Cursors.{Cursor}
use Rattle.translator.specs.Cursors.{ReadNumber}
use Rattle.translator.specs.Clauses.{Inside, with_number, number_by}
use Rattle.translator.specs.VariableContracts.{layer_after}
use Rattle.translator.specs.Fields.{Field, signed}
use Rattle.translator.specs.Format.{Format, gives, field, is_open, field_after, fault_after, step_after, cursor_after}
use Rattle.translator.specs.Sas.{line_feed}
use Rattle.translator.specs.Text.{any, layer_fault}
use Rattle.translator.proofs.FieldLaws.{field_right}
use Rattle.translator.proofs.ReadingLaws.{after_refused, open_before}
use Rattle.translator.proofs.ReadingListed.{after_within}

-- every cursor stands in the text
pub after_inside : {A : Type 0} (f : Format A) (s : List ℕ) (c r : Cursor) → Inside s c.at → r ≡ cursor_after f s c → Inside s r.at
after_inside f s c r h e = record { limited = h.limited; within = let w = after_within field_right f s c h.within in omega (arith, ap (λ (x : Cursor). x.at) e) }

pub step_after_lem : (f : Field) (s : List ℕ) (c : Cursor) → field_after f s c ≡ cursor_after (field f any gives) s c
unfolding cursor_after step_after fault_after
step_after_lem f s c = refl

pub field_inside : (f : Field) (s : List ℕ) (c r : Cursor) → Inside s c.at → r ≡ field_after f s c → Inside s r.at
field_inside f s c r h e = after_inside (field f any gives) s c r h (e ∙ step_after_lem f s c)

pub number_inside : {A : Type 0} (f : Format A) (g : A → ℕ) (s : List ℕ) (c : Cursor) (r : ReadNumber) → Inside s c.at → r ≡ number_by f g s c → Inside s r.cursor.at
unfolding number_by with_number
number_inside f g s c r h e = after_inside f s c r.cursor h (ap (λ (x : ReadNumber). x.cursor) e)

pub layer_inside : (s : List ℕ) (c r : Cursor) → Inside s c.at → r ≡ layer_after s c → Inside s r.at
unfolding layer_after cursor_after
layer_inside s c r h e = after_inside (field (signed line_feed) layer_fault gives) s c r h e

pub with_number_inside : (s : List ℕ) (c : Cursor) (n : ℕ) (r : ReadNumber) → Inside s c.at → r ≡ with_number c n → Inside s r.cursor.at
unfolding with_number
with_number_inside s c n r h e = subst (λ (x : ReadNumber). Inside s x.cursor.at) (sym e) h

pub field_before : (f : Field) (s : List ℕ) (c : Cursor) → is_open (field_after f s c) ≡ true → is_open c ≡ true
field_before f s c e = open_before (field f any gives) s c (sym (ap is_open (step_after_lem f s c)) ∙ e)

-- a number that was read, where it is: behind a refusal it does not matter
pub after_with_number : {A : Type 0} (F : ℕ → Format A) (s : List ℕ) (c : Cursor) (n : ℕ) (r : ReadNumber) → r ≡ with_number c n → cursor_after (F r.value) s r.cursor ≡ cursor_after (F n) s c
unfolding with_number
after_with_number F s c n r e =
    ap (λ (x : ReadNumber). cursor_after (F x.value) s x.cursor) e
    ∙ split (is_open c) (λ o. rw o refl) (λ o. after_refused (F (cond (is_open c) n 0)) s c o ∙ sym (after_refused (F n) s c o))

-- cursors that stand in the text
pub ruleset inside = (after_inside, field_inside, number_inside, layer_inside)
