-- What calls that read a text answer: a refusal that is handed on, and what is read behind one.
use Prim.Native.Nat.{ℕ, ◌+◌, ◌≤◌, ◌<◌}
use mathlib.Core.Path.{◌≡◌, refl, sym, ap}
use mathlib.Core.Bool.{Bool, true, false, not}
use mathlib.Core.List.{List}
use native.Mathlib.Omega.{arith}
use lib.Dec.{eqb}
use borrow.Author.Tests.{ne_eqb}
use Rattle.std.specs.Prelude.{Option, Some, None, is_some, Result, Ok, Err}
use Rattle.std.specs.Result.{IsErrAnd}
use Rattle.std.proofs.Common.{Bor}
use Rattle.std.proofs.lemmas.Result.{err_from_is_err_and}
use Rattle.files.specs.declared.refusals.Refusal.{Refusal}
use Rattle.files.specs.Outcome.{Outcome, done, refused, outcome_of, is_done, guard}
use Rattle.files.proofs.Guards.{refused_stands, refused_number}
use Rattle.translator.specs.Cursors.{ReadNumber}
use lib.ListN.{length, drop}
use Rattle.translator.specs.Clauses.{numeral_found, with_number, number_after, judged, number_by}
use Rattle.translator.specs.declared.fields.Found.{Found}
use Rattle.translator.specs.Fields.{Field, number, signed, numeral_at}
use Rattle.translator.specs.Format.{Format, gives, field, cursor_at, cursor_refused, is_open, field_after, cursor_after}
use Rattle.translator.specs.Sas.{Separator, byte_of, line_feed}
use Rattle.translator.specs.Text.{layer_fault}
use Rattle.translator.specs.VariableContracts.{layer_after}
use Rattle.translator.specs.Reads.{cursor_of, code_of, Told}
use Rattle.translator.proofs.ReadingLaws.{field_closed, after_refused}
use Rattle.translator.proofs.CursorLaws.{go}
use Rattle.translator.proofs.InsideReading.{field_inside}
use Rattle.translator.proofs.NumberReading.{with_number_open, with_number_refused, number_read}

pub handed : {B : Type 0} (o : Result B Refusal) (e : Refusal) → IsErrAnd o (λ x. x ≡ e) → o ≡ Err e
handed o e h = let p = err_from_is_err_and o h in rw (p.1, p.2) refl

pub opened : (at : ℕ) → is_open (cursor_at at) ≡ true
unfolding is_open is_done
opened at = refl

pub closed : (r : Refusal) → is_open (cursor_refused (refused r)) ≡ false
unfolding is_open
closed r = refused_stands r

-- nothing is read behind a refusal
module _ (s : List ℕ) (r : Refusal) where
  pub field_shut : (f : Field) → cursor_refused (refused r) ≡ field_after f s (cursor_refused (refused r))
  field_shut f = sym (field_closed f s (cursor_refused (refused r)) (closed r))

  pub after_shut : {A : Type 0} (f : Format A) → cursor_refused (refused r) ≡ cursor_after f s (cursor_refused (refused r))
  after_shut f = sym (after_refused f s (cursor_refused (refused r)) (closed r))

  pub by_shut : {A : Type 0} (f : Format A) (g : A → ℕ) → record { cursor = cursor_refused (refused r); value = 0 } ≡ number_by f g s (cursor_refused (refused r))
  unfolding number_by with_number
  by_shut f g = rw (after_refused f s (cursor_refused (refused r)) (closed r), closed r) refl

  pub numbered_shut : (separator : Separator) → record { cursor = cursor_refused (refused r); value = 0 } ≡ number_after separator s (cursor_refused (refused r))
  unfolding number_after with_number
  numbered_shut separator = rw (field_closed (number separator) s (cursor_refused (refused r)) (closed r), closed r) refl

  pub layer_shut : cursor_refused (refused r) ≡ layer_after s (cursor_refused (refused r))
  unfolding layer_after cursor_after
  layer_shut = after_shut (field (signed line_feed) layer_fault gives)

-- the same text
pub texts : {a b : Bor (List ℕ)} → a ≡ b → a.now ≡ b.now
texts e = ap (λ (x : Bor (List ℕ)). x.now) e

-- a number that was read, and none behind a refusal
pub value_open : (at n : ℕ) → record { cursor = cursor_at at; value = n } ≡ with_number (cursor_at at) n
value_open at n = with_number_open (cursor_at at) n refl

pub value_shut : (r : Refusal) (n : ℕ) → record { cursor = cursor_refused (refused r); value = 0 } ≡ with_number (cursor_refused (refused r)) n
value_shut r n = with_number_refused (cursor_refused (refused r)) n (refused_number r)

-- a test that passes, one that fails, and one behind a refusal
pub judged_open : (at : ℕ) (b : Bool) (n p : ℕ) → 0 < n → done ≡ guard b n p done → cursor_at at ≡ judged (cursor_at at) b n p
unfolding judged guard is_open is_done
judged_open at true n p h e = refl
judged_open at false n p h e = absurd (omega (arith, ap (λ (o : Outcome). o.number) e))

pub judged_stop : (r : Refusal) (at : ℕ) (b : Bool) (n p : ℕ) → refused r ≡ guard b n p done → cursor_refused (refused r) ≡ judged (cursor_at at) b n p
unfolding judged guard is_open is_done
judged_stop r at true n p e = absurd (refused_number r (ap (λ (o : Outcome). o.number) e))
judged_stop r at false n p e = ap cursor_refused e

pub passed_open : (at n p : ℕ) → cursor_at at ≡ judged (cursor_at at) true n p
unfolding judged is_open is_done
passed_open at n p = refl

pub judged_by : (o : Result Unit Refusal) (at : ℕ) (b : Bool) (n p : ℕ) → 0 < n → outcome_of o ≡ guard b n p done → cursor_of o at ≡ judged (cursor_at at) b n p
judged_by (Ok x) at b n p h e = judged_open at b n p h e
judged_by (Err r) at b n p h e = judged_stop r at b n p e

pub judged_shut : (r : Refusal) (b : Bool) (n p : ℕ) → cursor_refused (refused r) ≡ judged (cursor_refused (refused r)) b n p
unfolding judged
judged_shut r b n p = rw (closed r) refl

-- a field ends within its text
pub reaches : (f : Field) (s : List ℕ) (at end : ℕ) → length s ≤ 65536 → at ≤ length s → cursor_at end ≡ field_after f s (cursor_at at) → end ≤ length s
reaches f s at end l w e = (field_inside f s (cursor_at at) (cursor_at end) (record { limited = l; within = w }) e).within

pub number_ended : (separator : Separator) (s : List ℕ) (at : ℕ) (found : Found) → length s ≤ 65536 → at ≤ length s → found ≡ numeral_found (drop at s) → done ≡ numeral_at (byte_of separator) (drop at s) at → at + (found.count + 1) ≤ length s
unfolding number_after with_number
number_ended separator s at found l h f e =
    reaches (number separator) s at (at + (found.count + 1)) l h
    (ap (λ (r : ReadNumber). r.cursor) (number_read separator s at (record { cursor = cursor_at (at + (found.count + 1)); value = found.value }) found done (cursor_at (at + (found.count + 1))) f e (go _) (value_open _ _)))

-- none is told from a number
pub none_told : (o : Option ℕ) (b : Bool) → is_some o ≡ not b → Told o → b ≡ eqb (code_of o) 1048577
none_told None true e h = refl
none_told None false e h = cc
none_told (Some n) true e h = cc
none_told (Some n) false e h = sym (ne_eqb n 1048577 (λ e. omega arith))
