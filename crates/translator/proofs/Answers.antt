-- The call answers by its stages, with an outcome of its list.
use Prim.Native.Nat.{ℕ}
use mathlib.Core.Path.{◌≡◌, refl}
use mathlib.Core.Bool.{true}
use mathlib.Core.List.{List, [], ◌∷◌}
use lib.ListN.{length}
use Rattle.files.specs.Listed.{listed, refused_at, short}
use Rattle.files.specs.Outcome.{fits}
use Rattle.files.proofs.Listed.{listed_done, listed_front, listed_behind, listed_later, listed_guard, listed_both, listed_at}
use Rattle.translator.specs.Translate.{translated, translate_outcome, text_refusals, translate_refusals, TranslateAnswers}
use Rattle.translator.proofs.Right.{text_listed}

module _ (text : List ℕ) (signer : ℕ) (file : List ℕ) where
  pub translate_listed : listed (translate_refusals text signer) (translate_outcome text signer file) ≡ true
  unfolding fits
  translate_listed =
      let all = translate_refusals text signer in
      let long : ℕ = length (translated text signer) in
      let own = refused_at 7 0 ∷ short long ∷ [] in
      listed_both all _ _ (listed_front (text_refusals text) own _ (text_listed text))
      (λ _. listed_both all _ _
      (listed_behind (text_refusals text) own _ (listed_guard own _ 7 0 _ (listed_at 7 0 (short long ∷ []) refl) (λ _. listed_done own)))
      (λ _. listed_both all _ _
      (listed_behind (text_refusals text) own _
      (listed_guard own _ 21 long _ (listed_later (refused_at 7 0) (short long ∷ []) _ (listed_at 21 long [] refl)) (λ _. listed_done own)))
      (λ _. listed_done all)))

  pub translate_answers : TranslateAnswers text signer file
  translate_answers = record { outcome = translate_listed; numbers = refl; buffers = refl }
