-- The first number of a set from one on: in a word, and word by word.
use Prim.Native.Nat.{ℕ, ◌+◌, ◌-◌, ◌*◌, ◌/◌, ◌%◌, ◌^◌, ◌≤◌, ◌<◌, min}
use mathlib.Core.Path.{◌≡◌, refl, sym, ap, ◌∙◌}
use mathlib.Core.Bool.{Bool, false}
use mathlib.Core.List.{List}
use native.Mathlib.Omega.{arith}
use native.Mathlib.Nat.{mod-lt, div-add-mod', mul_comm}
use lib.Bits.{bit_and, bit_or}
use lib.Count.{count_trailing_zeros}
use lib.ListN.{length, length-set, get_or, set}
use lib.Seq.{get_or-set_other}
use Rattle.files.proofs.Filling.{filled_before, filled_after}
use Rattle.files.proofs.Logic.{split_le}
use Rattle.bits.specs.Sets.{in_word, in_words, FirstFrom, Added, Kept}
use Rattle.bits.proofs.BitLaws.{in_shifted, none_before, there_at, in_place, place_below, in_words_with}

-- in a word
module _ (w limit from r : ℕ) (few : limit ≤ 64) (start : from ≤ limit) (is : r ≡ from + count_trailing_zeros 64 (w / 2 ^ from)) where
  none_skipped : (k : ℕ) → from ≤ k → k < r → in_word w k ≡ false
  none_skipped k a b =
      let e : from + (k - from) ≡ k = omega arith in
      ap (in_word w) (sym e) ∙ sym (in_shifted w from (k - from)) ∙ none_before 64 (w / 2 ^ from) (k - from) (omega arith)

  pub first_within : r < limit → FirstFrom (in_word w) limit from r
  first_within h =
      record {
        first = omega arith;
        last = omega arith;
        skipped = none_skipped;
        there = λ l. ap (in_word w) is ∙ sym (in_shifted w from (count_trailing_zeros 64 (w / 2 ^ from))) ∙ there_at 64 (w / 2 ^ from) (omega arith);
      }

  pub first_beyond : limit ≤ r → FirstFrom (in_word w) limit from limit
  first_beyond h = record { first = start; last = omega arith; skipped = λ k a b. none_skipped k a (omega arith); there = λ l. absurd (omega arith) }

pub first_none : (test : ℕ → Bool) (limit from : ℕ) → from ≤ limit → limit ≤ from → FirstFrom test limit from limit
first_none test limit from a b = record { first = a; last = omega arith; skipped = λ k c d. absurd (omega arith); there = λ l. absurd (omega arith) }

-- word by word: none before a bit of the word at `place`
pub record Scanned (words : List ℕ) (at from place bit : ℕ) : Type 0 where
  pub few : place ≤ 8
  pub inside : bit < 64
  pub reached : from ≤ 64 * place + bit
  pub skipped : (k : ℕ) → from ≤ k → k < 64 * place + bit → in_words words at k ≡ false

module _ (words : List ℕ) (at : ℕ) where
  module _ (limit from : ℕ) where
    pub scan_begin : from ≤ limit → limit ≤ 512 → Scanned words at from (from / 64) (from % 64)
    scan_begin h few =
        let is : 64 * (from / 64) + from % 64 ≡ from = ap (λ (x : ℕ). x + from % 64) (mul_comm 64 (from / 64)) ∙ div-add-mod' from 64 in
        record {
          few = omega (arith, is);
          inside = mod-lt from (let p : 0 < 64 = omega arith in p);
          reached = omega (arith, is);
          skipped = λ k a b. absurd (omega (arith, is));
        }

    module _ (place bit r : ℕ) (s : Scanned words at from place bit) (f : FirstFrom (in_word (get_or words (at + place) 0)) 64 bit r) where
      up_to : (k : ℕ) → from ≤ k → k < 64 * place + r → in_words words at k ≡ false
      up_to k a b =
          split_le (64 * place + bit) k
          (λ l.
          let e : 64 * place + (k - 64 * place) ≡ k = omega arith in
          ap (in_words words at) (sym e)
          ∙ in_place words at place (k - 64 * place) (omega (arith, f.last))
          ∙ f.skipped (k - 64 * place) (omega arith) (omega arith))
          (λ l. s.skipped k a l)

      pub scan_next : 64 ≤ r → 64 * place < limit → limit ≤ 512 → Scanned words at from (place + 1) 0
      scan_next h l few = record { few = omega arith; inside = omega arith; reached = omega (arith, s.reached, f.first, f.last); skipped = λ k a b. up_to k a (omega arith) }

      pub scan_found : (found : ℕ) → r < 64 → from ≤ limit → found ≡ min limit (64 * place + r) → FirstFrom (in_words words at) limit from found
      scan_found found h start lesser =
          split_le limit (64 * place + r)
          (λ l.
          let is : found ≡ limit = omega arith in
          record { first = omega arith; last = omega arith; skipped = λ k a b. up_to k a (omega arith); there = λ m. absurd (omega arith) })
          (λ l.
          let is : found ≡ 64 * place + r = omega arith in
          record {
            first = omega (arith, s.reached, f.first);
            last = omega arith;
            skipped = λ k a b. up_to k a (omega arith);
            there = λ m. ap (in_words words at) is ∙ in_place words at place r h ∙ f.there h;
          })

    pub scan_end : (place bit : ℕ) → Scanned words at from place bit → from ≤ limit → limit ≤ 64 * place → FirstFrom (in_words words at) limit from limit
    scan_end place bit s start l = record { first = start; last = omega arith; skipped = λ k a b. s.skipped k a (omega arith); there = λ m. absurd (omega arith) }

-- a number added
pub added : (words : List ℕ) (at k : ℕ) → at + 8 ≤ length words → k < 512
    → Added at k words (set words (at + k / 64) (bit_or (get_or words (at + k / 64) 0) (1 * 2 ^ (k % 64) % 2 ^ 64)))
added words at k room few =
    let word = bit_or (get_or words (at + k / 64) 0) (1 * 2 ^ (k % 64) % 2 ^ 64) in
    record {
      has = in_words_with words at k (omega (arith, place_below k few));
      others = λ i apart. get_or-set_other words (at + k / 64) i word 0 apart;
    }

-- the first i words have their bits that are in the row too
pub record Keeping (rows : List ℕ) (at : ℕ) (words₀ words : List ℕ) (i : ℕ) : Type 0 where
  pub few : i ≤ 8
  pub same : length words ≡ length words₀
  pub done : (j : ℕ) → j < i → get_or words j 0 ≡ bit_and (get_or rows (at + j) 0) (get_or words₀ j 0)
  pub rest : (j : ℕ) → i ≤ j → get_or words j 0 ≡ get_or words₀ j 0

module _ (rows : List ℕ) (at : ℕ) (words₀ : List ℕ) where
  pub keep_begin : Keeping rows at words₀ words₀ 0
  keep_begin = record { few = omega arith; same = refl; done = λ j l. absurd (omega arith); rest = λ j l. refl }

  pub keep_next : (words : List ℕ) (i : ℕ) → Keeping rows at words₀ words i → i < 8 → 8 ≤ length words₀
      → Keeping rows at words₀ (set words i (bit_and (get_or rows (at + i) 0) (get_or words i 0))) (i + 1)
  keep_next words i k h room =
      let x = bit_and (get_or rows (at + i) 0) (get_or words i 0) in
      record {
        few = omega arith;
        same = length-set words i x ∙ k.same;
        done =
            filled_before words i x (λ j y. y ≡ bit_and (get_or rows (at + j) 0) (get_or words₀ j 0)) (omega (arith, k.same)) k.done
            (ap (bit_and (get_or rows (at + i) 0)) (k.rest i (omega arith)));
        rest = filled_after words i x (λ j y. y ≡ get_or words₀ j 0) k.rest;
      }

  pub keep_end : (words : List ℕ) (i : ℕ) → Keeping rows at words₀ words i → 8 ≤ i → Kept rows at words₀ words
  keep_end words i k h j l = k.done j (omega arith)
