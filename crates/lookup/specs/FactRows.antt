-- Rows of actions by fact: for each fact of a task the actions after whose step it can hold; behind them the actions that are cheap enough.
use Rattle.std.specs.Prelude.{ℕ, ◌+◌, ◌*◌, ◌≤◌, ◌<◌, ◌≡◌, Bool, cond, ◌&&◌, List, eqb, leb, length, get_or}
use Rattle.files.specs.Below.{all_below, sum_of}
use Rattle.plans.specs.Tally.{meets_cell}
use Rattle.bits.specs.Sets.{in_words}

-- the most facts of a task that is searched
abbrev pub most_facts : ℕ
most_facts = 148

-- the number of the fact that variable v has value z: by variable, then value
abbrev pub fact_number : List ℕ → ℕ → ℕ → ℕ
fact_number sizes v z = sum_of sizes v + z

-- few facts, and room for their rows of eight words
pub record FewFacts (variables : ℕ) (sizes rows : List ℕ) : Type 0 where
  pub variables_few : variables ≤ 64
  pub facts_few : sum_of sizes variables ≤ most_facts
  pub room : 8 * most_facts ≤ length rows

-- a variable can have a value after a step: the effect's, or one that the condition asks where there is no effect
unfoldable pub can_have : ℕ → ℕ → ℕ → Bool
can_have condition effect value = cond (eqb effect 255) (meets_cell condition value) (eqb effect value)

-- action a can lead to a state where variable v has value z
unfoldable pub leads_to_fact : List ℕ → List ℕ → ℕ → ℕ → ℕ → Bool
leads_to_fact conditions effects v z a = can_have (get_or conditions (64 * a + v) 0) (get_or effects (64 * a + v) 0) z

-- the row of each fact has the actions that can lead to it
abbrev pub RowsByFact : (variables actions : ℕ) (sizes conditions effects rows : List ℕ) → Type 0
RowsByFact variables actions sizes conditions effects rows =
    (v z a : ℕ) → v < variables → z < get_or sizes v 0 → a < actions → in_words rows (8 * fact_number sizes v z) a ≡ leads_to_fact conditions effects v z a

-- so many words hold the rows of every task that is searched, with one row more behind those of the facts
abbrev pub most_words : ℕ
most_words = 1192

-- action a costs at most so many minutes
unfoldable pub costs_within : List ℕ → ℕ → ℕ → Bool
costs_within costs most a = leb (get_or costs a 0) most

-- the row behind those of the facts has the actions that do
abbrev pub CheapRow : (actions : ℕ) (costs : List ℕ) (most : ℕ) (rows : List ℕ) → Type 0
CheapRow actions costs most rows = (a : ℕ) → a < actions → in_words rows (8 * most_facts) a ≡ costs_within costs most a

-- what the filling of the rows asks
pub record CanFillRows (variables actions : ℕ) (sizes rows : List ℕ) : Type 0 where
  pub few : FewFacts variables sizes rows
  pub actions_few : actions ≤ 512

-- the rows of the conditions, and that of the actions that are cheap enough
pub record CheapRows (variables actions : ℕ) (sizes conditions costs : List ℕ) (most : ℕ) (rows : List ℕ) : Type 0 where
  pub by_fact : RowsByFact variables actions sizes conditions conditions rows
  pub cheap : CheapRow actions costs most rows

-- values of variables, each with its row
pub record RowsFor (variables : ℕ) (sizes values rows : List ℕ) : Type 0 where
  pub few : FewFacts variables sizes rows
  pub inside : (v : ℕ) → v < variables → get_or values v 0 < get_or sizes v 0

-- the actions that are in the rows of all values
abbrev pub InAllRows : (variables : ℕ) (sizes values rows words : List ℕ) → Type 0
InAllRows variables sizes values rows words =
    (a : ℕ) → a < 512 → in_words words 0 a ≡ all_below variables (λ v. in_words rows (8 * fact_number sizes v (get_or values v 0)) a)

pub record EightWords (variables : ℕ) (sizes values rows words : List ℕ) : Type 0 where
  pub all : InAllRows variables sizes values rows words
  pub eight : length words ≡ 8

-- and in the row behind those of the facts
abbrev pub InCheapRows : (variables : ℕ) (sizes values rows words : List ℕ) → Type 0
InCheapRows variables sizes values rows words =
    (a : ℕ) → a < 512 → in_words words 0 a ≡ in_words rows (8 * most_facts) a && all_below variables (λ v. in_words rows (8 * fact_number sizes v (get_or values v 0)) a)

-- few facts with those of a variable of so many values, from a fact on
pub record RowsInside (fact v size actions : ℕ) : Type 0 where
  pub within : fact + size ≤ most_facts
  pub variable : v < 64
  pub actions_few : actions ≤ 512

-- the rows of a variable were written, from that of a fact on, and no word before them
pub record VariablePut (conditions effects : List ℕ) (v size actions fact : ℕ) (rows₀ rows : List ℕ) : Type 0 where
  pub has : (z a : ℕ) → z < size → a < actions → in_words rows (8 * (fact + z)) a ≡ leads_to_fact conditions effects v z a
  pub before : (i : ℕ) → i < 8 * fact → get_or rows i 0 ≡ get_or rows₀ i 0
