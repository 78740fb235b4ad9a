-- The check of a text passes just the texts that state a supported task, and 31 stands at the first byte with which no text goes on.
use Prim.Native.Nat.{ℕ, ◌+◌, ◌≤◌, ◌<◌}
use mathlib.Core.Path.{◌≡◌, refl, ap, sym, subst, ◌∙◌}
use mathlib.Core.Bool.{true, false}
use mathlib.Core.List.{List, [], ◌++◌, append-nil}
use native.Mathlib.Omega.{arith}
use native.Mathlib.Nat.{zero-add}
use lib.Dec.{leb}
use lib.ListN.{length, take, drop, length-append, length-drop, drop_of_length-le}
use lib.Seq.{length-take-le, take-length, take-append_seam}
use borrow.Author.Tests.{le-leb, lt-leb}
use Rattle.files.specs.Outcome.{Outcome, done, refusal, is_done, guard, and_then}
use Rattle.files.specs.Listed.{listed}
use Rattle.files.specs.Records.{size_fits}
use Rattle.files.proofs.Done.{facts}
use Rattle.files.proofs.Guards.{guard_passes, guard_refuses}
use Rattle.files.proofs.Listed.{listed_done, listed_guard, listed_both}
use Rattle.files.proofs.Logic.{clash, split, split_le}
use Rattle.translator.specs.Cursors.{Cursor}
use Rattle.translator.specs.Format.{outside_limits, cursor_at, is_open, cursor_after}
use Rattle.translator.specs.Right.{States, TextsRight, PlaceRight, PlacesRight}
use Rattle.translator.specs.Sas.{Sas, printed, well_named}
use Rattle.translator.specs.Stated.{supported, stated}
use Rattle.translator.specs.Text.{text, form_at, check_text, sas_of, text_task}
use Rattle.translator.specs.Translate.{text_refusals}
use Rattle.translator.proofs.FieldLaws.{field_right}
use Rattle.translator.proofs.Traces.{Trace, text_of, value_of, passed}
use Rattle.translator.proofs.ReadingTraces.{reads, reads_value, faulty_closed, back}
use Rattle.translator.proofs.ReadingListed.{cursor_open, stop_listed, fault_listed, after_within, after_listed}
use Rattle.translator.proofs.ReadingPlaces.{Begun, begins_with, unfinished}
use Rattle.translator.proofs.StatedLaws.{stated_means, stated_accepted}
use Rattle.translator.proofs.StatedShorter.{stated_shorter}
use Rattle.translator.proofs.TextPrints.{text_prints}

-- where the reading of a text ends
abbrev end_of : List ℕ → Cursor
end_of s = cursor_after text s (cursor_at 0)

-- a text within the size is checked for its form
check_form : (s : List ℕ) → length s ≤ 65536 → check_text s ≡ form_at s
unfolding check_text size_fits
check_form s h = sym (guard_passes (leb (length s) 65536) 4 0 (form_at s) (form_at s) (le-leb (length s) 65536 h) refl)

-- a text that is checked is within the size
pub check_fits : (s : List ℕ) → (check_text s).number ≡ 0 → length s ≤ 65536
unfolding check_text size_fits
check_fits s e = (simp facts at e).0

-- its form is right where it is read to its end
form_done : (s : List ℕ) (end : ℕ) → end_of s ≡ cursor_at end → length s ≤ end → form_at s ≡ done
unfolding form_at and_then is_done
form_done s end e h =
    ap (λ (c : Cursor). and_then c.outcome (guard (leb (length s) c.at) 31 c.at done)) e
    ∙ sym (guard_passes (leb (length s) end) 31 end done done (le-leb (length s) end h) refl)

form_behind : (s : List ℕ) (end : ℕ) → end_of s ≡ cursor_at end → end < length s → form_at s ≡ refusal 31 end
unfolding form_at and_then is_done
form_behind s end e h =
    ap (λ (c : Cursor). and_then c.outcome (guard (leb (length s) c.at) 31 c.at done)) e
    ∙ sym (guard_refuses (leb (length s) end) 31 end done (refusal 31 end) (lt-leb (length s) end h) refl)

open_done : (c : Cursor) → c.outcome ≡ done → is_open c ≡ true
unfolding is_open is_done
open_done c e = ap is_done e

form_refused : (s : List ℕ) → is_open (end_of s) ≡ false → form_at s ≡ (end_of s).outcome
unfolding form_at and_then is_open
form_refused s e = rw e refl

-- a text that goes on behind the text that is read is none
past_end : (t u : Trace text) (more : List ℕ) → passed text t ≡ true → text_of text u ≡ text_of text t ++ more → 0 < length more → ⊥
past_end t u more p e h =
    let s : List ℕ = text_of text u in
    let whole : s ≡ text_of text u ++ [] = sym (append-nil s) in
    let first : end_of s ≡ cursor_at (0 + length (text_of text t)) = reads field_right text t s more 0 e p in
    split (passed text u)
    (λ q.
    let all : end_of s ≡ cursor_at (0 + length s) = reads field_right text u s [] 0 whole q in
    omega (arith, ap (λ (c : Cursor). c.at) (sym first ∙ all), ap (λ (l : List ℕ). length l) e, length-append (text_of text t) more))
    (λ q. clash (ap is_open first ∙ cursor_open (0 + length (text_of text t))) (faulty_closed field_right text u s [] 0 whole q))

pub text_listed : (s : List ℕ) → listed (text_refusals s) (check_text s) ≡ true
unfolding check_text size_fits form_at
text_listed s =
    let end : Cursor = end_of s in
    listed_guard (text_refusals s) (leb (length s) 65536) 4 0 (form_at s) (fault_listed s outside_limits 0 (omega arith))
    (λ fits.
    listed_both (text_refusals s) end.outcome (guard (leb (length s) end.at) 31 end.at done)
    (after_listed field_right text s (cursor_at 0) refl (omega arith))
    (λ opened.
    listed_guard (text_refusals s) (leb (length s) end.at) 31 end.at done
    (stop_listed s end.at (after_within field_right text s (cursor_at 0) (omega arith)))
    (λ whole. listed_done (text_refusals s))))

-- the trace of what is printed
trace_text : (x : Sas) (names : well_named x ≡ true) → text_of text (text_prints.trace x names) ≡ printed x
trace_text x names = text_prints.text (text_prints.trace x names) ∙ ap printed (text_prints.value x names)

-- what states something is checked, and read as it
pub text_passes : (s : List ℕ) → length s ≤ 65536 → (x : Sas) → States s x → (check_text s ≡ done) × (sas_of s ≡ x)
unfolding sas_of
text_passes s h x w =
    let t : Trace text = text_prints.trace x w.names in
    let written : text_of text t ≡ s = trace_text x w.names ∙ w.text in
    let whole : s ≡ text_of text t ++ [] = sym written ∙ sym (append-nil (text_of text t)) in
    let passes : passed text t ≡ true = text_prints.passes t ∙ ap supported (text_prints.value x w.names) ∙ w.within in (
      check_form s h ∙ form_done s (0 + length (text_of text t)) (reads field_right text t s [] 0 whole passes) (omega (arith, ap (λ (l : List ℕ). length l) written)),
      reads_value field_right text t s [] 0 whole passes ∙ text_prints.value x w.names,
    )

pub text_states : (s : List ℕ) → length s ≤ 65536 → check_text s ≡ done → (x : Sas) × States s x
text_states s h e =
    let form : form_at s ≡ done = sym (check_form s h) ∙ e in
    let opened : is_open (end_of s) ≡ true = split (is_open (end_of s)) (λ o. o) (λ o. clash (open_done (end_of s) (sym (form_refused s o) ∙ form)) o) in
    let read = back field_right text s 0 (omega arith) opened in
    let t : Trace text = read.0 in
    let end : ℕ = 0 + length (text_of text t) in
    split_le (length s) end
    (λ l. (
      value_of text t,
      record {
        names = text_prints.fits t;
        within = sym (text_prints.passes t) ∙ read.1;
        text =
            sym (text_prints.text t)
            ∙ sym (append-nil (text_of text t))
            ∙ ap (λ (r : List ℕ). text_of text t ++ r) (sym (drop_of_length-le s {i = end} l))
            ∙ sym read.3;
      },
    ))
    (λ l. absurd (let z : ◌≡◌ {A = ℕ} 0 31 = ap (λ (o : Outcome). o.number) (sym form ∙ form_behind s end read.4 l) in omega arith))

task_stated : (s : List ℕ) (x : Sas) → sas_of s ≡ x → text_task s ≡ stated x
unfolding text_task
task_stated s x e = ap stated e

pub text_right : TextsRight
text_right s h =
    record {
      states = text_states s h;
      right = λ x w.
          let read = text_passes s h x w in
          let long : length (printed x) ≡ length s = ap (λ (l : List ℕ). length l) w.text in
          record {
            passes = read.0;
            task = task_stated s x read.1;
            accepted = stated_accepted x w.within (omega (arith, long));
            shorter = λ signer. omega (arith, long, stated_shorter x w.within signer);
            means = stated_means x w.within;
          };
    }

-- 31 where a field is unfinished
begun_right : (s : List ℕ) (p : ℕ) → Begun text s p → PlaceRight s p
begun_right s p b =
    record {
      within = b.within;
      begun = (value_of text b.trace, text_prints.fits b.trace, ap (take p) (sym (text_prints.text b.trace)) ∙ b.begun);
      stops = λ x names e.
          b.stops (text_prints.trace x names) [] (ap (take (p + 1)) (append-nil (text_of text (text_prints.trace x names)) ∙ trace_text x names) ∙ e);
    }

-- 31 where a text has bytes behind it
behind_right : (s : List ℕ) (t : Trace text) → passed text t ≡ true → s ≡ text_of text t ++ drop (length (text_of text t)) s
    → length (text_of text t) < length s → PlaceRight s (length (text_of text t))
behind_right s t p e h =
    let piece : List ℕ = text_of text t in
    let end : ℕ = length piece in
    let behind : List ℕ = drop end s in
    record {
      within = omega arith;
      begun = (value_of text t, text_prints.fits t, ap (take end) (sym (text_prints.text t)) ∙ take-length piece ∙ sym (ap (take end) e ∙ take-append_seam piece behind));
      stops = λ x names q.
          let u : Trace text = text_prints.trace x names in
          let rest : List ℕ = drop (end + 1) (text_of text u) in
          past_end t u (take 1 behind ++ rest) p
          (begins_with piece (text_of text u) behind 1 (ap (take (end + 1)) (trace_text x names) ∙ q ∙ ap (take (end + 1)) e))
          (omega (arith, length-append (take 1 behind) rest, length-take-le 1 behind (omega (arith, length-drop end s))));
    }

pub places_right : PlacesRight
places_right s p h e =
    let form : form_at s ≡ refusal 31 p = sym (check_form s h) ∙ e in
    split (is_open (end_of s))
    (λ o.
    let read = back field_right text s 0 (omega arith) o in
    let t : Trace text = read.0 in
    let end : ℕ = length (text_of text t) in
    let ends : end_of s ≡ cursor_at end = read.4 ∙ ap cursor_at (zero-add end) in
    split_le (length s) end
    (λ l. absurd (let z : ◌≡◌ {A = ℕ} 0 31 = ap (λ (x : Outcome). x.number) (sym (form_done s end ends l) ∙ form) in omega arith))
    (λ l.
    subst (PlaceRight s) (ap (λ (x : Outcome). x.place) (sym (form_behind s end ends l) ∙ form))
    (behind_right s t read.1 (read.3 ∙ ap (λ (n : ℕ). text_of text t ++ drop n s) (zero-add end)) l)))
    (λ o.
    let found = unfinished field_right text s 0 p (sym (form_refused s o) ∙ form) in
    subst (PlaceRight s) (sym (found.1 ∙ zero-add found.0)) (begun_right s found.0 found.2))
