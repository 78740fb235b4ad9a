-- The state that is settled next, and the least states of blocks of 64 states.
use Rattle.std.specs.Prelude.{ℕ, ◌+◌, ◌*◌, ◌≤◌, ◌<◌, ◌≡◌, Bool, false, cond, List, eqb, get_or}
use Rattle.distances.specs.Entries.{is_none, less_entry, lowered, table_entry}
use Rattle.distances.specs.declared.Entry.{Entry}

-- of the states from `from` on below `limit` that are open and have an entry, the one with the least; `count` where there is none
pub record Picked (entries : List Entry) (settled : List Bool) (count from limit best : ℕ) : Type 0 where
  pub range : best ≤ count
  pub inside : best < count → (from ≤ best) × (best < limit)
  pub unsettled : best < count → get_or settled best false ≡ false
  pub has_entry : best < count → is_none (table_entry entries best) ≡ false
  pub least : best < count → (s : ℕ) → from ≤ s → s < limit → s < count → get_or settled s false ≡ false → is_none (table_entry entries s) ≡ false
      → less_entry (table_entry entries s) (table_entry entries best) ≡ false
  pub none_left : best ≡ count → (s : ℕ) → from ≤ s → s < limit → s < count → get_or settled s false ≡ false → is_none (table_entry entries s) ≡ false → ⊥

-- the least state of every block of 64 states is known
abbrev pub Known : (entries : List Entry) (settled : List Bool) (count : ℕ) (least : List ℕ) → Type 0
Known entries settled count least = (b : ℕ) → 64 * b < count → Picked entries settled count (64 * b) (64 * b + 64) (get_or least b 0)

-- two states, or `count` for none
pub record TwoStates (count first second : ℕ) : Type 0 where
  pub first_most : first ≤ count
  pub second_most : second ≤ count

-- the lesser of them, the first where they are alike
unfoldable pub lesser_of : List Entry → ℕ → ℕ → ℕ → ℕ
lesser_of entries count first second =
    let both = cond (less_entry (table_entry entries second) (table_entry entries first)) second first in
    cond (eqb second count) first (cond (eqb first count) second both)

-- the best state so far, and the next
pub record BestSoFar (count best s : ℕ) : Type 0 where
  pub few : count ≤ 4096
  pub most : best ≤ count
  pub below : s < count

pub record Better (entries : List Entry) (settled : List Bool) (count best s r : ℕ) : Type 0 where
  pub range : r ≤ count
  pub picks : (from : ℕ) → from ≤ s → Picked entries settled count from s best → Picked entries settled count from (s + 1) r

-- a stretch of states
pub record Stretch (count from limit : ℕ) : Type 0 where
  pub few : count ≤ 4096
  pub order : from ≤ limit
  pub inside : limit ≤ count

-- the entries after one was offered to the states that pass a test, of the first `count`
abbrev pub Offered : (test : ℕ → Bool) (count : ℕ) (e : Entry) (entries₀ entries : List Entry) → Type 0
Offered test count e entries₀ entries =
    (s : ℕ) → s < count → table_entry entries s ≡ cond (test s) (lowered e (table_entry entries₀ s)) (table_entry entries₀ s)
