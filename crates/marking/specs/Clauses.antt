-- Names for the parts of what functions ask and ensure.
use Rattle.std.specs.Prelude.{ℕ, ◌+◌, ◌*◌, ◌≤◌, ◌<◌, ◌≡◌, Bool, false, List, ltb, length, get_or}
use Rattle.bits.specs.Sets.{in_words}
use Rattle.files.specs.Below.{bit, count_below}
use Rattle.files.specs.Clauses.{WithinLimits}
use Rattle.files.specs.Dense.{OriginSizes}
use Rattle.marking.specs.Dense.{conditions_in, could_cover_at, unlinked_at}

-- how many of the numbers below a bound pass a test
pub record CountOf (passes : ℕ → Bool → Type 0) (count r : ℕ) : Type 0 where
  pub is : (p : ℕ → Bool) → ((i : ℕ) (b : Bool) → i < count → passes i b → b ≡ p i) → r ≡ count_below count p
  pub at_most : r ≤ count

-- bytes few enough that their sum fits
pub record Summable (bytes : List ℕ) (count : ℕ) : Type 0 where
  pub within : count ≤ length bytes
  pub few : count ≤ 4096

-- a variable, and how many values it has
pub record ValuesWithin (v size : ℕ) : Type 0 where
  pub known : v < 64
  pub few : size ≤ 32

-- the domain sizes of variables
pub record SizesWithin (sizes : List ℕ) (variables : ℕ) : Type 0 where
  pub few_variables : variables ≤ 64
  pub few_values : OriginSizes sizes variables

-- a number below a limit, and how many actions there are
pub record Among (i limit actions : ℕ) : Type 0 where
  pub known : i < limit
  pub few_actions : actions ≤ 512

-- an action of a task
pub record ActionAmong (variables actions a : ℕ) : Type 0 where
  pub limits : WithinLimits variables actions
  pub known : a < 512

-- an action of a task, and a number to begin with
pub record ActionFrom (variables actions a from : ℕ) : Type 0 where
  pub among : ActionAmong variables actions a
  pub start : from ≤ actions

-- two actions
pub record TwoActions (variables b a : ℕ) : Type 0 where
  pub few_variables : variables ≤ 64
  pub known : b < 512
  pub other_known : a < 512

-- the row at `base` of so many cells
pub record WholeRow (cells base variables : ℕ) : Type 0 where
  pub few_variables : variables ≤ 64
  pub within : base + 64 ≤ cells

-- two rows, of 512 rows
pub record TwoRows (base other variables : ℕ) : Type 0 where
  pub few_variables : variables ≤ 64
  pub within : base + 64 ≤ 32768
  pub other_within : other + 64 ≤ 32768

-- how many conditions each of the first `actions` actions has
pub record CountsOf (conditions : List ℕ) (variables actions : ℕ) (counts : List ℕ) : Type 0 where
  pub count : (a : ℕ) → a < actions → get_or counts a 0 ≡ conditions_in conditions (64 * a) variables

-- two actions with the numbers of their conditions
pub record TwoCounted (conditions counts : List ℕ) (variables b a : ℕ) : Type 0 where
  pub pair : TwoActions variables b a
  pub count : get_or counts b 0 ≡ conditions_in conditions (64 * b) variables
  pub other_count : get_or counts a 0 ≡ conditions_in conditions (64 * a) variables

-- an action whose column in the table of what could cover what is empty
pub record EmptyColumn (conditions counts : List ℕ) (variables actions b : ℕ) (table : List ℕ) : Type 0 where
  pub limits : WithinLimits variables actions
  pub known : b < actions
  pub counted : CountsOf conditions variables actions counts
  pub room : 4096 ≤ length table
  pub empty : (a : ℕ) → a < actions → in_words table (8 * a) b ≡ false

-- the column of action b is filled, and the others are as they were
pub record ColumnFilled (costs conditions : List ℕ) (variables actions b : ℕ) (before after : List ℕ) : Type 0 where
  pub same : length after ≡ length before
  pub column : (a : ℕ) → a < actions → in_words after (8 * a) b ≡ could_cover_at costs conditions variables b a
  pub others : (a j : ℕ) → j < 512 → (j ≡ b → ⊥) → in_words after (8 * a) j ≡ in_words before (8 * a) j

-- a task within limits, and a table with nothing in it
pub record EmptyTable (variables actions : ℕ) (table : List ℕ) : Type 0 where
  pub limits : WithinLimits variables actions
  pub room : 4096 ≤ length table
  pub empty : (i : ℕ) → get_or table i 0 ≡ 0

-- the number of an action that covers, or none below `actions`
pub record CovererIs (r actions : ℕ) (is_covered : Bool) : Type 0 where
  pub is : ltb r actions ≡ is_covered
  pub at_most : r ≤ 512

-- the unlinked facts of the first `variables` variables, and 0 for the others
pub record UnlinkedAre (r : List ℕ) (level : ℕ) (facts starts threats : List ℕ) (variables : ℕ) : Type 0 where
  pub told : (i : ℕ) → i < 32 * variables → get_or r i 0 ≡ bit (unlinked_at level facts starts threats i)
  pub zero : (i : ℕ) → 32 * variables ≤ i → get_or r i 0 ≡ 0
