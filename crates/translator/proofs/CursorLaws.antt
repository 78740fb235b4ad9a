-- How a cursor moves, from the code's own tests: words and lines byte by byte, then one field behind another.
use Prim.Native.Nat.{ℕ, suc, ◌+◌, ◌≤◌, ◌<◌}
use mathlib.Core.Path.{◌≡◌, refl, sym, ap, ap₂, ◌∙◌}
use mathlib.Core.List.{List, [], ◌∷◌}
use native.Mathlib.Nat.{add-zero}
use native.Mathlib.Omega.{arith}
use lib.Dec.{eqb}
use lib.ListN.{length, get_or, drop, drop_of_length-le}
use lib.Seq.{drop-cons, drop-drop}
use borrow.Author.Tests.{eq-eqb, ne_eqb}
use Rattle.files.proofs.Guards.{is_done_lem, is_refused, goes_on_lem, stops, refused_number}
use Rattle.files.proofs.Logic.{split, split_le}
use Rattle.files.specs.Outcome.{Outcome, done, refusal, refused, is_done, guard, and_then}
use Rattle.files.specs.declared.refusals.Refusal.{Refusal}
use Rattle.translator.specs.Cursors.{Cursor}
use Rattle.translator.specs.Fields.{Field, word, name, byte_at, word_at, line_length, field_at, field_length}
use Rattle.translator.specs.Format.{cursor_at, cursor_refused, is_open, cursor_by, field_after}

pub cursor_by_end : (o x : Outcome) (end : ℕ) → o.number ≡ 0 → x ≡ done → record { outcome = x; at = end } ≡ cursor_by o end
unfolding cursor_by
cursor_by_end o x end z e = rw (is_done_lem o z) (ap (λ (y : Outcome). record { outcome = y; at = end }) e)

pub cursor_by_refusal : (o : Outcome) (end : ℕ) → (o.number ≡ 0 → ⊥) → cursor_refused o ≡ cursor_by o end
unfolding cursor_by
cursor_by_refusal o end d = rw (is_refused o d) refl

-- what is done goes on to an end, and a refusal has none
pub go : (end : ℕ) → cursor_at end ≡ cursor_by done end
go end = cursor_by_end done done end refl refl

pub stop : (e : Refusal) (end : ℕ) → cursor_refused (refused e) ≡ cursor_by (refused e) end
stop e end = cursor_by_refusal (refused e) end (refused_number e)

-- the bytes of a text from an offset on
pub rest_none : (s : List ℕ) (at : ℕ) → length s ≤ at → drop at s ≡ []
rest_none s at h = drop_of_length-le s h

pub rest_more : (s : List ℕ) (at : ℕ) → at < length s → drop at s ≡ get_or s at 0 ∷ drop (at + 1) s
rest_more s at h = let e : suc at ≡ at + 1 = omega arith in drop-cons s at 0 h ∙ ap (λ (n : ℕ). get_or s at 0 ∷ drop n s) e

pub byte_none : (byte : ℕ) (s : List ℕ) (at : ℕ) (r : Outcome) → length s ≤ at → r ≡ refusal 31 at → r ≡ byte_at byte (drop at s) at
unfolding byte_at
byte_none byte s at r h e = rw (rest_none s at h) e

pub byte_other : (byte : ℕ) (s : List ℕ) (at : ℕ) (r : Outcome) → at < length s → (get_or s at 0 ≡ byte → ⊥) → r ≡ refusal 31 at → r ≡ byte_at byte (drop at s) at
unfolding byte_at guard
byte_other byte s at r h d e = rw (rest_more s at h, ne_eqb (get_or s at 0) byte d) e

pub byte_here : (byte : ℕ) (s : List ℕ) (at : ℕ) (r : Outcome) → at < length s → get_or s at 0 ≡ byte → r ≡ done → r ≡ byte_at byte (drop at s) at
unfolding byte_at guard
byte_here byte s at r h q e = rw (rest_more s at h, eq-eqb (get_or s at 0) byte q) e

-- a byte that stands is within the text
pub byte_within : (byte : ℕ) (s : List ℕ) (at : ℕ) (o : Outcome) → o ≡ byte_at byte (drop at s) at → o.number ≡ 0 → at < length s
unfolding byte_at
byte_within byte s at o e z =
    split_le (length s) at
    (λ h.
    let none : byte_at byte (drop at s) at ≡ refusal 31 at = rw (rest_none s at h) refl in
    let n : o.number ≡ 31 = ap (λ (x : Outcome). x.number) (e ∙ none) in
    absurd (omega arith))
    (λ h. h)

-- a word: its first byte, then the others
word_step : (c : ℕ) (w : List ℕ) (s : List ℕ) (at : ℕ) → word_at (c ∷ w) (drop at s) at ≡ and_then (byte_at c (drop at s) at) (word_at w (drop (at + 1) s) (at + 1))
unfolding word_at byte_at guard and_then is_done
word_step c w s at =
    split_le (length s) at
    (λ h. rw (rest_none s at h) refl)
    (λ h. rw (rest_more s at h) (split (eqb (get_or s at 0) c) (λ e. rw e refl) (λ e. rw e refl)))

pub word_start : (w s : List ℕ) (at : ℕ) → word_at w (drop (at + 0) s) (at + 0) ≡ word_at w (drop at s) at
word_start w s at = ap (λ (n : ℕ). word_at w (drop n s) n) (add-zero at)

module _ (w s : List ℕ) (at i : ℕ) (whole : Outcome) (is : word_at (drop i w) (drop (at + i) s) (at + i) ≡ whole) where
  pub word_none : length w ≤ i → done ≡ whole
  unfolding word_at
  word_none h = sym (ap (λ (l : List ℕ). word_at l (drop (at + i) s) (at + i)) (rest_none w i h)) ∙ is

  first : i < length w → and_then (byte_at (get_or w i 0) (drop (at + i) s) (at + i)) (word_at (drop (i + 1) w) (drop (at + i + 1) s) (at + i + 1)) ≡ whole
  first h = sym (word_step (get_or w i 0) (drop (i + 1) w) s (at + i)) ∙ sym (ap (λ (l : List ℕ). word_at l (drop (at + i) s) (at + i)) (rest_more w i h)) ∙ is

  pub word_stops : (o : Outcome) → i < length w → o ≡ byte_at (get_or w i 0) (drop (at + i) s) (at + i) → (o.number ≡ 0 → ⊥) → o ≡ whole
  word_stops o h e d = stops _ (word_at (drop (i + 1) w) (drop (at + i + 1) s) (at + i + 1)) o e d ∙ first h

  pub word_next : (o : Outcome) → i < length w → o ≡ byte_at (get_or w i 0) (drop (at + i) s) (at + i) → o.number ≡ 0
      → word_at (drop (i + 1) w) (drop (at + (i + 1)) s) (at + (i + 1)) ≡ whole
  word_next o h e z =
      let further : at + (i + 1) ≡ at + i + 1 = omega arith in
      ap (λ (n : ℕ). word_at (drop (i + 1) w) (drop n s) n) further
      ∙ goes_on_lem (byte_at (get_or w i 0) (drop (at + i) s) (at + i)) (word_at (drop (i + 1) w) (drop (at + i + 1) s) (at + i + 1)) _ o e z refl
      ∙ first h

-- a field behind a cursor
pub field_cursor_by : (f : Field) (s : List ℕ) (c : Cursor) → c.outcome.number ≡ 0
    → cursor_by (field_at f (drop c.at s) c.at) (c.at + field_length f (drop c.at s)) ≡ field_after f s c
unfolding field_after is_open
field_cursor_by f s c z = rw (is_done_lem c.outcome z) refl

pub word_open : (w s : List ℕ) (c r : Cursor) (o : Outcome) → c.outcome.number ≡ 0 → o ≡ word_at w (drop c.at s) c.at → r ≡ cursor_by o (c.at + length w)
    → r ≡ field_after (word w) s c
unfolding field_at field_length
word_open w s c r o z e q = q ∙ ap (λ (x : Outcome). cursor_by x (c.at + length w)) e ∙ field_cursor_by (word w) s c z

pub name_open : (s : List ℕ) (c r : Cursor) (end : ℕ) (o : Outcome) → c.outcome.number ≡ 0 → end ≡ c.at + line_length (drop c.at s) → o ≡ byte_at 10 (drop end s) end → r ≡ cursor_by o (end + 1)
    → r ≡ field_after name s c
unfolding field_at field_length
name_open s c r end o z n e q =
    let rest : List ℕ = drop c.at s in
    let further : drop (line_length rest) rest ≡ drop end s = drop-drop (line_length rest) c.at s ∙ ap (λ (i : ℕ). drop i s) (sym n) in
    let here : o ≡ byte_at 10 (drop (line_length rest) rest) (c.at + line_length rest) = e ∙ ap₂ (byte_at 10) (sym further) n in
    let ends : end + 1 ≡ c.at + (line_length rest + 1) = omega arith in
    q ∙ ap₂ cursor_by here ends ∙ field_cursor_by name s c z
