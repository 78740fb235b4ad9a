-- The words of the numbers that pass a test: from one number to the next, and from one word to the next.
use Prim.Native.Nat.{ℕ, ◌+◌, ◌-◌, ◌*◌, ◌/◌, ◌%◌, ◌^◌, ◌<◌, min}
use mathlib.Core.Path.{◌≡◌, refl, sym, ap, subst, ◌∙◌}
use mathlib.Core.Bool.{Bool, true, false, ◌||◌, or-false, or-true}
use mathlib.Core.List.{List}
use native.Mathlib.Omega.{arith}
use native.Mathlib.Nat.{one-mul, div-add-mod'}
use lib.Bits.{bit_or}
use lib.Dec.{eqb}
use lib.ListN.{length, set}
use lib.Pow.{shl_exact}
use lib.Seq.{get_or-set_same, get_or-set_other}
use borrow.Author.Tests.{eq-eqb, ne_eqb}
use Rattle.files.proofs.Logic.{split_le}
use Rattle.bits.specs.Sets.{in_word, in_words, WordOf, AllPut}
use Rattle.bits.proofs.BitLaws.{in_none, in_either, in_power, in_place}

module _ (passes : ℕ → Bool → Type 0) where
  pub word_begin : WordOf passes 0 0
  word_begin = record { has = λ k l. absurd (omega arith); none = λ k l. in_none k }

  module _ (k word : ℕ) (w : WordOf passes k word) where
    pub word_without : passes k false → WordOf passes (k + 1) word
    word_without fails =
        record {
          has =
              λ j l.
              split_le k j
              (λ a. let is : k ≡ j = omega arith in subst (λ (n : ℕ). passes n (in_word word n)) is (subst (passes k) (sym (w.none k (omega arith))) fails))
              (λ b. w.has j b);
          none = λ j l. w.none j (omega arith);
        }

    pub word_with : k < 64 → passes k true → WordOf passes (k + 1) (bit_or word (1 * 2 ^ k % 2 ^ 64))
    word_with few pass =
        let bits : (j : ℕ) → in_word (bit_or word (1 * 2 ^ k % 2 ^ 64)) j ≡ in_word word j || eqb j k =
        λ j.
        ap (λ (x : ℕ). in_word (bit_or word x) j) (shl_exact 1 k 64 (omega arith) (omega arith) ∙ one-mul (2 ^ k))
        ∙ in_either word (2 ^ k) j
        ∙ ap (λ (b : Bool). in_word word j || b) (in_power k j) in
        record {
          has =
              λ j l.
              split_le k j
              (λ a.
              let is : k ≡ j = omega arith in
              subst (λ (n : ℕ). passes n (in_word (bit_or word (1 * 2 ^ k % 2 ^ 64)) n)) is
              (subst (passes k) (sym (bits k ∙ ap (λ (b : Bool). in_word word k || b) (eq-eqb k k refl) ∙ or-true (in_word word k))) pass))
              (λ b.
              let apart : j ≡ k → ⊥ = λ e. absurd (omega arith) in
              subst (passes j) (sym (bits j ∙ ap (λ (x : Bool). in_word word j || x) (ne_eqb j k apart) ∙ or-false (in_word word j))) (w.has j b));
          none =
              λ j l.
              let apart : j ≡ k → ⊥ = λ e. absurd (omega arith) in
              bits j ∙ ap (λ (x : Bool). in_word word j || x) (ne_eqb j k apart) ∙ or-false (in_word word j) ∙ w.none j (omega arith);
        }

-- words in a row
module _ (passes : ℕ → Bool → Type 0) (at count : ℕ) (words₀ : List ℕ) where
  pub put_next : (words : List ℕ) (place : ℕ) → AllPut passes at (min count (64 * place)) words₀ words → (here : ℕ → Bool → Type 0) (few word : ℕ) → WordOf here few word
      → ((k : ℕ) (b : Bool) → here k b → passes (64 * place + k) b) → few ≡ min (count - 64 * place) 64 → at + place < length words
      → AllPut passes at (min count (64 * (place + 1))) words₀ (set words (at + place) word)
  unfolding in_words
  put_next words place a here few word w means is room =
      record {
        has =
            λ k l.
            split_le (64 * place) k
            (λ m.
            let e : 64 * place + (k - 64 * place) ≡ k = omega arith in
            subst (λ (n : ℕ). passes n (in_words (set words (at + place) word) at n)) e
            (subst (passes (64 * place + (k - 64 * place)))
            (sym (in_place (set words (at + place) word) at place (k - 64 * place) (omega arith) ∙ ap (λ (x : ℕ). in_word x (k - 64 * place)) (get_or-set_same words (at + place) word 0 room)))
            (means (k - 64 * place) (in_word word (k - 64 * place)) (w.has (k - 64 * place) (omega arith)))))
            (λ m.
            let other : at + k / 64 ≡ at + place → ⊥ = λ e. absurd (omega (arith, div-add-mod' k 64)) in
            subst (passes k) (sym (ap (λ (x : ℕ). in_word x (k % 64)) (get_or-set_other words (at + place) (at + k / 64) word 0 other))) (a.has k (omega arith)));
        before = λ i l. let other : i ≡ at + place → ⊥ = λ e. absurd (omega arith) in get_or-set_other words (at + place) i word 0 other ∙ a.before i l;
      }
