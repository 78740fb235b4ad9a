-- The call's answer by its stages: what a stage refuses, and a file that is written; and what is read of a text that is checked.
use Prim.Native.Nat.{ℕ, ◌≤◌}
use mathlib.Core.Path.{◌≡◌, refl, sym, ap, ◌∙◌}
use mathlib.Core.Bool.{true, false}
use mathlib.Core.List.{List}
use lib.Dec.{leb}
use lib.ListN.{length}
use Rattle.files.specs.Outcome.{Outcome, done, is_done, guard, and_then, fits, overwrite}
use Rattle.files.specs.Accepted.{accepted_task}
use Rattle.files.proofs.Done.{facts}
use Rattle.files.proofs.Guards.{is_done_lem, is_refused, done_number, both_done}
use Rattle.files.proofs.Listed.{listed_itself}
use Rattle.files.proofs.Logic.{split, clash}
use Rattle.files.proofs.Stages.{both_yes, both_no, both_last}
use Rattle.translator.specs.Sas.{Sas}
use Rattle.translator.specs.Stated.{supported, stated}
use Rattle.translator.specs.Text.{check_text, sas_of, text_task}
use Rattle.translator.specs.Translate.{Translated, translated, translate_whole, no_file, Translates, translate_outcome, translate_answer, translated_file, text_refusals, translate_refusals}
use Rattle.translator.proofs.Answers.{translate_listed}
use Rattle.translator.proofs.Right.{check_fits, text_listed, text_passes, text_states, text_right}
use Rattle.translator.proofs.Supported.{text_supported}

-- what is read of a text that is checked
pub record TextHeld (s : List ℕ) : Type 0 where
  pub within : supported (sas_of s) ≡ true
  pub accepted : accepted_task (stated (sas_of s)) ≡ true
  pub task : text_task s ≡ stated (sas_of s)
  pub variables_few : length (sas_of s).variables ≤ 64
  pub operators_few : length (sas_of s).operators ≤ 512

pub check_done : (s : List ℕ) → (check_text s).number ≡ 0 → check_text s ≡ done
check_done s z = listed_itself (text_refusals s) (check_text s) (text_listed s) (is_done_lem (check_text s) z)

pub held_text : (s : List ℕ) → check_text s ≡ done → TextHeld s
held_text s e =
    let h : length s ≤ 65536 = check_fits s (ap (λ (o : Outcome). o.number) e) in
    let found = text_states s h e in
    let is : sas_of s ≡ found.0 = (text_passes s h found.0 found.1).1 in
    let right = (text_right s h).right found.0 found.1 in
    let within : supported (sas_of s) ≡ true = ap supported is ∙ found.1.within in
    record {
      within = within;
      accepted = ap (λ (x : Sas). accepted_task (stated x)) is ∙ right.accepted;
      task = right.task ∙ ap stated (sym is);
      variables_few = (text_supported (sas_of s) within).variables_few;
      operators_few = (text_supported (sas_of s) within).operators_few;
    }

-- a room that is tested last
fits_last : (needed room : ℕ) → and_then (fits needed room done) done ≡ fits needed room done
unfolding fits guard is_done
fits_last needed room = both_last (fits needed room done) (λ y. split (leb needed room) (λ t. rw t refl) (λ t. clash y (rw t refl)))

module _ (text : List ℕ) (signer : ℕ) (file : List ℕ) where
  -- the length needed is known where the text is checked
  pub call_outcome : (o read : Outcome) (needed : ℕ) → read ≡ check_text text → (read.number ≡ 0 → needed ≡ length (translated text signer))
      → o ≡ and_then read (and_then (guard (leb 1 signer) 7 0 done) (fits needed (length file) done)) → o ≡ translate_outcome text signer file
  call_outcome o read needed is long e =
      let last : ℕ → Outcome = λ n. and_then (guard (leb 1 signer) 7 0 done) (fits n (length file) done) in
      e
      ∙ split (is_done read)
      (λ y. ap (λ (n : ℕ). and_then read (last n)) (long (done_number read y)))
      (λ n. both_no read (last needed) n ∙ sym (both_no read (last (length (translated text signer))) n))
      ∙ ap (λ (a : Outcome). and_then a (last (length (translated text signer)))) is
      ∙ ap (λ (b : Outcome). and_then (check_text text) (and_then (guard (leb 1 signer) 7 0 done) b)) (sym (fits_last (length (translated text signer)) (length file)))

  -- all stages are done
  module _ (z : (translate_outcome text signer file).number ≡ 0) where
    pub call_checked : (check_text text).number ≡ 0
    call_checked = (both_done (check_text text) _ z).0

    behind : ((guard (leb 1 signer) 7 0 done).number ≡ 0) × ((fits (length (translated text signer)) (length file) done).number ≡ 0)
    behind =
        let two = both_done (guard (leb 1 signer) 7 0 done) _ (both_done (check_text text) _ z).1 in
        (two.0, (both_done (fits (length (translated text signer)) (length file) done) done two.1).0)

    pub call_signed : 1 ≤ signer
    call_signed = (simp facts at behind.0).0

    -- so the answer is the whole, and the buffer is overwritten
    pub call_whole : translate_answer text signer file ≡ translate_whole text signer
    call_whole = rw (is_done_lem (translate_outcome text signer file) z) refl

    pub call_overwritten : translated_file text signer file ≡ overwrite file (translated text signer)
    call_overwritten =
        rw (
          is_done_lem (check_text text) call_checked,
          is_done_lem (guard (leb 1 signer) 7 0 done) behind.0,
          is_done_lem (fits (length (translated text signer)) (length file) done) behind.1,
        )
        refl

  module _ (o : Outcome) (gives : o ≡ translate_outcome text signer file) where
    -- the text, the signer or a short buffer
    pub call_refused : (r : Translated) → (o.number ≡ 0 → ⊥) → r ≡ no_file o → Translates text signer file r file
    call_refused r d e =
        let refused : is_done (translate_outcome text signer file) ≡ false = ap is_done (sym gives) ∙ is_refused o d in
        record { answer = e ∙ ap no_file gives ∙ rw refused refl; buffers = sym (same refused) }
      where
        same : is_done (translate_outcome text signer file) ≡ false → translated_file text signer file ≡ file
        same refused =
            split (is_done (check_text text))
            (λ a.
            split (is_done (guard (leb 1 signer) 7 0 done))
            (λ b.
            let c : is_done (fits (length (translated text signer)) (length file) done) ≡ false =
            ap is_done (sym (both_yes (check_text text) _ a ∙ both_yes (guard (leb 1 signer) 7 0 done) _ b ∙ fits_last (length (translated text signer)) (length file))) ∙ refused in
            rw (a, b, c) refl)
            (λ b. rw (a, b) refl))
            (λ a. rw a refl)

    pub call_done : (r : Translated) (now : List ℕ) → o.number ≡ 0 → r ≡ record { outcome = o; file = length (translated text signer) } → now ≡ overwrite file (translated text signer)
        → Translates text signer file r now
    call_done r now n e q =
        let z : (translate_outcome text signer file).number ≡ 0 = ap (λ (x : Outcome). x.number) (sym gives) ∙ n in
        let finished : o ≡ done = gives ∙ listed_itself (translate_refusals text signer) _ (translate_listed text signer file) (is_done_lem _ z) in
        record {
          answer = e ∙ (λ i. record { outcome = finished i; file = length (translated text signer) }) ∙ sym (call_whole z);
          buffers = q ∙ sym (call_overwritten z);
        }
