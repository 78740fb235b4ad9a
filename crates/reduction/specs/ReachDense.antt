-- Reach by the cells of dense arrays: for each fact the set of actions that ask for it, for each action how many of its
-- conditions are not reached, and the reached actions in the order in which they were found.
use Rattle.std.specs.Prelude.{ℕ, suc, ◌+◌, ◌*◌, ◌≤◌, ◌<◌, ◌≡◌, Bool, true, false, not, ◌&&◌, ◌||◌, List, [], eqb, length, get_or, set}
use Rattle.bits.specs.Sets.{in_words}
use Rattle.files.specs.Below.{bit, count_below}
use Rattle.files.specs.Clauses.{WithinLimits}
use Rattle.marking.specs.Clauses.{WholeRow}
use Rattle.marking.specs.Dense.{is_marked, SetWhere, names_at, row_names}
use Rattle.reduction.specs.Clauses.{Pushed}

-- the fact of a cell by its place, 32 places a variable; the facts of the first `count` cells of the row at `base`
abbrev pub cell_fact : ℕ → ℕ → ℕ → Bool
cell_fact v cell i = names_at false v cell 0 i

abbrev pub row_facts : List ℕ → ℕ → ℕ → ℕ → Bool
row_facts row base count i = row_names false row base [] count i

-- action a asks for the fact at place i: `rows` has a set of actions for each place
abbrev pub asks_for : List ℕ → ℕ → ℕ → Bool
asks_for rows a i = in_words rows (8 * i) a

-- how many facts an action asks for, and how many of them are not reached
unfoldable pub asked : List ℕ → ℕ → ℕ
asked rows a = count_below 2048 (asks_for rows a)

unfoldable pub lacking : List ℕ → List ℕ → ℕ → ℕ
lacking rows facts a = count_below 2048 (λ i. asks_for rows a i && not (is_marked facts i))

-- action a asks for the facts that pass, beside what actions asked for before
abbrev pub Asking : (ℕ → Bool) → ℕ → List ℕ → List ℕ → Type 0
Asking test a before after = (i j : ℕ) → j < 512 → asks_for after j i ≡ asks_for before j i || (eqb j a && test i)

-- a cell of an action's row
pub record Askable (rows : List ℕ) (v a : ℕ) : Type 0 where
  pub variable : v < 64
  pub known : a < 512
  pub room : 16384 ≤ length rows

pub record AskedCell (before after : List ℕ) (v cell a r : ℕ) : Type 0 where
  pub asking : Asking (cell_fact v cell) a before after
  pub one : r ≡ bit (not (eqb cell 255))

-- an action that asks for nothing yet
pub record AsksNothing (rows : List ℕ) (variables a : ℕ) : Type 0 where
  pub few_variables : variables ≤ 64
  pub known : a < 512
  pub room : 16384 ≤ length rows
  pub empty : (i : ℕ) → asks_for rows a i ≡ false

pub record AskedRow (before after conditions : List ℕ) (variables a r : ℕ) : Type 0 where
  pub asking : Asking (row_facts conditions (64 * a) variables) a before after
  pub count : r ≡ asked after a

-- the first `found` numbers are the actions whose count is 0, of the first `actions`
pub record Listing (counts order : List ℕ) (actions found : ℕ) : Type 0 where
  pub known : (i : ℕ) → i < found → get_or order i 0 < actions
  pub none : (i : ℕ) → i < found → get_or counts (get_or order i 0) 0 ≡ 0
  pub listed : (a : ℕ) → a < actions → get_or counts a 0 ≡ 0 → (i : ℕ) × (i < found) × (get_or order i 0 ≡ a)
  pub count : found ≡ count_below actions (λ a. eqb (get_or counts a 0) 0)

-- to begin with no action asks for anything, and none is listed
pub record Beginning (variables actions : ℕ) (rows : List ℕ) (found : ℕ) : Type 0 where
  pub limits : WithinLimits variables actions
  pub empty : (i : ℕ) → get_or rows i 0 ≡ 0
  pub rows_room : 16384 ≤ length rows
  pub none : found ≡ 0

-- each action asks for its conditions, and those without any are listed
pub record Begun (conditions : List ℕ) (variables actions : ℕ) (rows counts order : List ℕ) (found : ℕ) : Type 0 where
  pub asks : (a i : ℕ) → a < actions → asks_for rows a i ≡ row_facts conditions (64 * a) variables i
  pub count : (a : ℕ) → a < actions → get_or counts a 0 ≡ asked rows a
  pub listing : Listing counts order actions found
  pub counts_room : 512 ≤ length counts
  pub order_room : 512 ≤ length order

-- a count that can be lowered, and a list with room
pub record Lowerable (counts order : List ℕ) (found a : ℕ) : Type 0 where
  pub known : a < 512
  pub some : 0 < get_or counts a 0
  pub few : found < 512
  pub counts_room : 512 ≤ length counts
  pub order_room : 512 ≤ length order

-- the count of a is one less, and a is listed where it comes to 0
pub record Lowered (counts order counts₁ order₁ : List ℕ) (found a r : ℕ) : Type 0 where
  pub left : ℕ
  pub less : get_or counts a 0 ≡ suc left
  pub lowered : counts₁ ≡ set counts a left
  pub pushed : Pushed order order₁ found a (eqb left 0) r

-- a list of the actions whose count is 0, and counts to be lowered where a test passes
pub record RowLowerable (counts order : List ℕ) (test : ℕ → Bool) (place actions found : ℕ) : Type 0 where
  pub known : place < 2048
  pub few : actions ≤ 512
  pub counts_room : 512 ≤ length counts
  pub order_room : 512 ≤ length order
  pub some : (a : ℕ) → a < actions → test a ≡ true → 0 < get_or counts a 0
  pub listing : Listing counts order actions found

pub record RowLowered (counts order counts₁ order₁ : List ℕ) (test : ℕ → Bool) (actions found r : ℕ) : Type 0 where
  pub less : (a : ℕ) → a < actions → get_or counts₁ a 0 + bit (test a) ≡ get_or counts a 0
  pub counts_room : 512 ≤ length counts₁
  pub order_room : 512 ≤ length order₁
  pub listing : Listing counts₁ order₁ actions r
  pub earlier : (i : ℕ) → i < found → get_or order₁ i 0 ≡ get_or order i 0
  pub more : found ≤ r

-- reached facts, and for each action the count of those that it lacks
pub record Reaching (rows : List ℕ) (actions : ℕ) (facts counts order : List ℕ) (found : ℕ) : Type 0 where
  pub few : actions ≤ 512
  pub facts_room : 2048 ≤ length facts
  pub counts_room : 512 ≤ length counts
  pub order_room : 512 ≤ length order
  pub counted : (a : ℕ) → a < actions → get_or counts a 0 ≡ lacking rows facts a
  pub listing : Listing counts order actions found

-- the same with a variable, and with a row
pub record CellReaching (rows : List ℕ) (v actions : ℕ) (facts counts order : List ℕ) (found : ℕ) : Type 0 where
  pub variable : v < 64
  pub state : Reaching rows actions facts counts order found

pub record RowReaching (rows row : List ℕ) (base variables actions : ℕ) (facts counts order : List ℕ) (found : ℕ) : Type 0 where
  pub whole : WholeRow (length row) base variables
  pub state : Reaching rows actions facts counts order found

-- the facts that pass are reached beside those that were
pub record Reaches (test : ℕ → Bool) (rows : List ℕ) (actions : ℕ) (facts order : List ℕ) (found : ℕ) (facts₁ counts₁ order₁ : List ℕ) (r : ℕ) : Type 0 where
  pub state : Reaching rows actions facts₁ counts₁ order₁ r
  pub marks : SetWhere test facts facts₁
  pub earlier : (i : ℕ) → i < found → get_or order₁ i 0 ≡ get_or order i 0
  pub more : found ≤ r

pub record Following (rows : List ℕ) (variables actions : ℕ) (facts counts order : List ℕ) (found : ℕ) : Type 0 where
  pub few_variables : variables ≤ 64
  pub state : Reaching rows actions facts counts order found

-- a set of facts has the effects of every action all of whose conditions it has
abbrev pub FactsClosed : List ℕ → List ℕ → ℕ → ℕ → (ℕ → Bool) → Type 0
FactsClosed rows effects variables actions F =
    (a : ℕ) → a < actions → ((i : ℕ) → i < 2048 → asks_for rows a i ≡ true → F i ≡ true) → (i : ℕ) → row_facts effects (64 * a) variables i ≡ true → F i ≡ true

-- the facts of one list are in a set
abbrev pub FactsIn : List ℕ → (ℕ → Bool) → Type 0
FactsIn facts F = (i : ℕ) → i < 2048 → is_marked facts i ≡ true → F i ≡ true

-- the reached facts have the effects of the actions that lack nothing, and only what follows from the facts before
pub record Followed (rows effects : List ℕ) (variables actions : ℕ) (facts facts₁ counts₁ : List ℕ) : Type 0 where
  pub counted : (a : ℕ) → a < actions → get_or counts₁ a 0 ≡ lacking rows facts₁ a
  pub follows : (a : ℕ) → a < actions → get_or counts₁ a 0 ≡ 0 → (i : ℕ) → i < 2048 → row_facts effects (64 * a) variables i ≡ true → is_marked facts₁ i ≡ true
  pub kept : FactsIn facts (is_marked facts₁)
  pub least : (F : ℕ → Bool) → FactsClosed rows effects variables actions F → FactsIn facts F → FactsIn facts₁ F
