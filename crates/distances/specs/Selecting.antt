-- The entries, the states that are settled and the least states of the blocks, from step to step of the search.
use Rattle.std.specs.Prelude.{ℕ, ◌≤◌, ◌≡◌, Bool, true, false, List, length, set, replicate}
use Rattle.distances.specs.Settling.{Known, Offered}
use Rattle.distances.specs.declared.Entry.{Entry}
use Rattle.distances.specs.declared.selection.Selection.{Selection}

-- the least state of every block is known
pub record Selecting (entries : List Entry) (x : Selection) : Type 0 where
  pub few : length entries ≤ 4096
  pub known : Known entries x.settled (length entries) x.least

-- no state is settled, and none of so many is the least of a block
pub record Fresh (count : ℕ) (x : Selection) : Type 0 where
  pub settled_is : x.settled ≡ replicate 4096 false
  pub least_is : x.least ≡ replicate 64 count

-- a state is settled
pub record Closed (entries : List Entry) (x₀ : Selection) (state : ℕ) (x : Selection) : Type 0 where
  pub settled_is : x.settled ≡ set x₀.settled state true
  pub selecting : Selecting entries x

-- an entry was offered to the states that pass a test
pub record Offers (test : ℕ → Bool) (e : Entry) (entries₀ : List Entry) (x₀ : Selection) (entries : List Entry) (x : Selection) : Type 0 where
  pub offered : Offered test (length entries₀) e entries₀ entries
  pub settled_is : x.settled ≡ x₀.settled
  pub selecting : Selecting entries x
