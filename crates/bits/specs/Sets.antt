-- Sets of small numbers as the bits of words: variables in one word, actions in eight.
use Rattle.std.specs.Prelude.{ℕ, ◌+◌, ◌/◌, ◌%◌, ◌^◌, ◌≤◌, ◌<◌, ◌≡◌, Bool, true, false, ◌||◌, List, eqb, length, get_or, Option, None, Some}
use Rattle.std.specs.Int.Bits.{bit_and}
use Rattle.bits.specs.declared.sets.Numbers.{Numbers}

-- number k is in the set of a word
unfoldable pub in_word : ℕ → ℕ → Bool
in_word word k = eqb (word / 2 ^ k % 2) 1

-- number k is in the set of the words from place `at` on
unfoldable pub in_words : List ℕ → ℕ → ℕ → Bool
in_words words at k = in_word (get_or words (at + k / 64) 0) (k % 64)

-- the first number from `from` on that passes a test, or `limit` where there is none below it
pub record FirstFrom (test : ℕ → Bool) (limit from r : ℕ) : Type 0 where
  pub first : from ≤ r
  pub last : r ≤ limit
  pub skipped : (k : ℕ) → from ≤ k → k < r → test k ≡ false
  pub there : r < limit → test r ≡ true

-- a number to begin with, in a word, and in eight words
pub record InOneWord (limit from : ℕ) : Type 0 where
  pub few : limit ≤ 64
  pub start : from ≤ limit

pub record InEightWords (words : List ℕ) (at limit from : ℕ) : Type 0 where
  pub room : at + 8 ≤ length words
  pub few : limit ≤ 512
  pub start : from ≤ limit

-- eight words at a place, and a number that a set of eight words can have
pub record NumberAt (at k : ℕ) (words : List ℕ) : Type 0 where
  pub room : at + 8 ≤ length words
  pub few : k < 512

-- k is in the set of the eight words at `at` beside what was in it; every word but that of k is as it was
pub record Added (at k : ℕ) (words₀ words : List ℕ) : Type 0 where
  pub has : (j : ℕ) → in_words words at j ≡ in_words words₀ at j || eqb j k
  pub others : (i : ℕ) → (i ≡ at + k / 64 → ⊥) → get_or words i 0 ≡ get_or words₀ i 0

-- a row at a place, and eight words beside
pub record CanKeep (at : ℕ) (rows words : List ℕ) : Type 0 where
  pub room : at + 8 ≤ length rows
  pub words_room : 8 ≤ length words

-- the words have their bits that are in the row too
abbrev pub Kept : (rows : List ℕ) (at : ℕ) (words₀ words : List ℕ) → Type 0
Kept rows at words₀ words = (i : ℕ) → i < 8 → get_or words i 0 ≡ bit_and (get_or rows (at + i) 0) (get_or words₀ i 0)

-- the numbers of a set of eight words that are still to be given
abbrev pub CanGoOn : Numbers → Type 0
CanGoOn n = InEightWords n.words.now n.at n.limit n.from

-- the first of them is given, and those behind it are left; or there was none
abbrev pub NumberGiven : Numbers → Option ℕ → Numbers → Type 0
NumberGiven n None after = FirstFrom (in_words n.words.now n.at) n.limit n.from n.limit × (after ≡ record n { from = n.limit })
NumberGiven n (Some k) after = FirstFrom (in_words n.words.now n.at) n.limit n.from k × (k < n.limit) × (after ≡ record n { from = k + 1 })

-- a word has those of the numbers below `count` that pass a test, and no others
pub record WordOf (passes : ℕ → Bool → Type 0) (count word : ℕ) : Type 0 where
  pub has : (k : ℕ) → k < count → passes k (in_word word k)
  pub none : (k : ℕ) → count ≤ k → in_word word k ≡ false

-- the eight words at a place have those of the numbers below `count` that pass a test; every word before them is as it was
pub record AllPut (passes : ℕ → Bool → Type 0) (at count : ℕ) (words₀ words : List ℕ) : Type 0 where
  pub has : (k : ℕ) → k < count → passes k (in_words words at k)
  pub before : (i : ℕ) → i < at → get_or words i 0 ≡ get_or words₀ i 0
