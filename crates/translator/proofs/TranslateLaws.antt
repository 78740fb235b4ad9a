-- The call, from the code's own steps: the text's arrays, the length needed, the outcome, and the file that is written.
use Prim.Native.Nat.{ℕ, ◌≤◌, ◌<◌}
use borrow.Author.Tests.{le-leb, lt-leb}
use mathlib.Core.Path.{◌≡◌, refl, sym, ap, ◌∙◌}
use mathlib.Core.Bool.{Bool, true, false}
use mathlib.Core.List.{List}
use lib.Dec.{leb}
use lib.ListN.{length}
use Rattle.files.proofs.Lengths.{task_file_length}
use Rattle.files.specs.Outcome.{Outcome, done, refusal, refused, is_done, guard, and_then, fits, overwrite}
use Rattle.files.specs.Dense.{held}
use Rattle.files.specs.declared.arrays.Arrays.{Arrays}
use Rattle.files.specs.declared.refusals.Refusal.{Refusal}
use Rattle.files.proofs.Guards.{guard_passes, guard_refuses, goes_on_lem, stops, refused_number}
use Rattle.files.specs.Lengths.{task_needed}
use Rattle.files.specs.Task.{Task}
use Rattle.files.specs.TaskFile.{task_file}
use Rattle.translator.specs.Parts.{TextRead}
use Rattle.translator.specs.Translate.{Translated, translated, no_file, Translates, translate_outcome}
use Rattle.translator.proofs.CallLaws.{call_outcome, call_checked, call_refused, call_done}

-- a guard as a stage of its own
guard_then : (t : Bool) (rest : Outcome) → guard t 7 0 rest ≡ and_then (guard t 7 0 done) rest
unfolding guard and_then is_done
guard_then true rest = refl
guard_then false rest = refl

-- the refusals in turn
pub from_text : (e : Refusal) (rest : Outcome) → refused e ≡ and_then (refused e) rest
from_text e rest = stops (refused e) rest (refused e) refl (refused_number e)

module _ (signer needed room : ℕ) where
  pub from_sign : (e : Refusal) → signer < 1 → refused e ≡ refusal 7 0 → refused e ≡ and_then done (guard (leb 1 signer) 7 0 (fits needed room done))
  from_sign e h q = goes_on_lem done _ (refused e) done refl refl (guard_refuses (leb 1 signer) 7 0 _ (refused e) (lt-leb 1 signer h) q)

  signed : (o : Outcome) → 1 ≤ signer → o ≡ fits needed room done → o ≡ and_then done (guard (leb 1 signer) 7 0 (fits needed room done))
  signed o h q = goes_on_lem done _ o done refl refl (guard_passes (leb 1 signer) 7 0 _ o (le-leb 1 signer h) q)

  pub from_room : (e : Refusal) → 1 ≤ signer → room < needed → refused e ≡ refusal 21 needed → refused e ≡ and_then done (guard (leb 1 signer) 7 0 (fits needed room done))
  unfolding fits
  from_room e h l q = signed (refused e) h (guard_refuses (leb needed room) 21 needed done (refused e) (lt-leb needed room l) q)

  pub all_done : 1 ≤ signer → needed ≤ room → done ≡ and_then done (guard (leb 1 signer) 7 0 (fits needed room done))
  unfolding fits
  all_done h l = signed done h (guard_passes (leb needed room) 21 needed done done (le-leb needed room l) refl)

module _ (text : List ℕ) (signer : ℕ) (file : List ℕ) (first : Outcome) (now : Arrays) (needed : ℕ) (o : Outcome)
    (read : TextRead text first now)
    (long : needed ≡ task_needed now.variables now.actions now.goal now.conditions now.effects)
    (is : o ≡ and_then first (guard (leb 1 signer) 7 0 (fits needed (length file) done))) where
  -- what the arrays hold is written as the text's task
  needed_is : first.number ≡ 0 → needed ≡ length (translated text signer)
  needed_is z =
      long
      ∙ sym (task_file_length now signer)
      ∙ ap (λ (t : Task). length (task_file t signer)) (read.task z)

  outcome_is : o ≡ translate_outcome text signer file
  outcome_is = call_outcome text signer file o first needed read.outcome needed_is (is ∙ ap (and_then first) (guard_then (leb 1 signer) (fits needed (length file) done)))

  pub translate_refused : (answer : Translated) → (o.number ≡ 0 → ⊥) → answer ≡ no_file o → Translates text signer file answer file
  translate_refused answer d e = call_refused text signer file o outcome_is answer d e

  module _ (z : o.number ≡ 0) where
    whole : (translate_outcome text signer file).number ≡ 0
    whole = sym (ap (λ (x : Outcome). x.number) outcome_is) ∙ z

    checked : first.number ≡ 0
    checked = ap (λ (x : Outcome). x.number) read.outcome ∙ call_checked text signer file whole

    pub translate_done : (after : List ℕ) → after ≡ overwrite file (task_file (held now) signer) → Translates text signer file (record { outcome = o; file = needed }) after
    translate_done after e =
        call_done text signer file o outcome_is _ after z
        (ap (λ (n : ℕ). record { outcome = o; file = n }) (needed_is checked))
        (e ∙ ap (λ (t : Task). overwrite file (task_file t signer)) (read.task checked))
