-- An entry that no state's is above.
use Rattle.std.specs.Prelude.{ℕ, ◌<◌, ◌≡◌, false, List}
use Rattle.distances.specs.Entries.{less_entry, table_entry}
use Rattle.distances.specs.declared.Entry.{Entry}

abbrev pub NoneAbove : (count : ℕ) (entries : List Entry) (bound : Entry) → Type 0
NoneAbove count entries bound = (s : ℕ) → s < count → less_entry bound (table_entry entries s) ≡ false

-- an entry that is less than neither of two
pub record Greater (first second r : Entry) : Type 0 where
  pub not_first : less_entry r first ≡ false
  pub not_second : less_entry r second ≡ false
