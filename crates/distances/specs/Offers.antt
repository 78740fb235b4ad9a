-- The steps to a settled state: which states are offered its entry with a step more, and what each part of the search asks and gives.
use Rattle.std.specs.Prelude.{ℕ, ◌+◌, ◌-◌, ◌*◌, ◌≤◌, ◌<◌, ◌≡◌, Bool, true, cond, ◌&&◌, List, eqb, leb, length, get_or, set}
use Rattle.files.specs.Below.{any_below, all_below}
use Rattle.files.specs.Accepted.{accepted_task}
use Rattle.files.specs.declared.arrays.Arrays.{Arrays}
use Rattle.files.specs.Dense.{row_pairs, row_action, held}
use Rattle.files.specs.Task.{Task}
use Rattle.plans.specs.State.{State, all_hold}
use Rattle.distances.specs.States.{state_count, state_at}
use Rattle.distances.specs.Table.{table_of, start_number}
use Rattle.distances.specs.Entries.{first_entry, table_entry}
use Rattle.distances.specs.Rows.{offered, row_variables, row_states, row_state}
use Rattle.distances.specs.Settling.{Picked}
use Rattle.distances.specs.Selecting.{Selecting}
use Rattle.distances.specs.Bounds.{NoneAbove}
use Rattle.bits.specs.Sets.{in_word}
use Rattle.lookup.specs.Moves.{no_move, WeightsOf, MovesIn}
use Rattle.lookup.specs.declared.moves.Move.{Move}
use Rattle.distances.specs.declared.Entry.{Entry}
use Rattle.distances.specs.declared.selection.Selection.{Selection}

-- state r is state s except in the variables of a set from `from` on
unfoldable pub differs_in : (ℕ → Bool) → ℕ → ℕ → State → State → Bool
differs_in free variables from s r = all_below variables (λ v. cond (leb from v && free v) true (eqb (r v) (s v)))

-- the states that differ from `number` only so
abbrev pub differs_from : (sizes : List ℕ) (variables free from number : ℕ) → ℕ → Bool
differs_from sizes variables free from number s = differs_in (in_word free) variables from (row_state variables sizes number) (row_state variables sizes s)

-- a state, in which the variables of a set from `from` on are 0
pub record OfferFrom (d : Arrays) (free from number : ℕ) : Type 0 where
  pub start : from ≤ d.variables
  pub below : number < row_states d.variables d.sizes
  pub zero : (v : ℕ) → from ≤ v → v < d.variables → in_word free v ≡ true → row_state d.variables d.sizes number v ≡ 0

-- states from `number` on, each so much further
pub record OfferValues (count number weight size : ℕ) : Type 0 where
  pub weight_few : weight ≤ 4096
  pub size_few : size < 256
  pub inside : (z : ℕ) → z < size → number + weight * z < count

abbrev pub is_one_of : (number weight size : ℕ) → ℕ → Bool
is_one_of number weight size s = any_below size (λ z. eqb s (number + weight * z))

-- by the moves: the variables that action a sets without a condition, and the number of the state before x in which they are 0
abbrev pub free_of : List Move → ℕ → ℕ
free_of moves a = (get_or moves a no_move).free

abbrev pub number_before : List Move → ℕ → ℕ → ℕ
number_before moves a x = x - (get_or moves a no_move).set + (get_or moves a no_move).asked

-- action a can lead to state x
pub record CanLead (d : Arrays) (moves : List Move) (x a : ℕ) : Type 0 where
  pub few : a < 512
  pub taken : (get_or moves a no_move).set ≤ x
  pub before : OfferFrom d (free_of moves a) 0 (number_before moves a x)

-- the entries after all steps to state x were offered, and a bound that is still above none
pub record StepsOffered (d : Arrays) (x : ℕ) (bound : Entry) (entries₀ : List Entry) (x₀ : Selection) (entries : List Entry) (x' : Selection) : Type 0 where
  pub offers : (s : ℕ) → s < length entries₀
      → table_entry entries s ≡ offered (row_variables d.variables d.sizes d.starts) (row_action d.variables d.costs d.conditions d.effects) x (table_entry entries₀ x) s (table_entry entries₀ s) d.actions
  pub settled_is : x'.settled ≡ x₀.settled
  pub selecting : Selecting entries x'
  pub above : NoneAbove (length entries) entries bound

-- state x is settled and all steps to it were offered, and the state that is settled next
pub record Rounded (d : Arrays) (x : ℕ) (bound : Entry) (entries₀ : List Entry) (x₀ : Selection) (entries : List Entry) (x' : Selection) (next : ℕ) : Type 0 where
  pub offers : (s : ℕ) → s < length entries₀
      → table_entry entries s ≡ offered (row_variables d.variables d.sizes d.starts) (row_action d.variables d.costs d.conditions d.effects) x (table_entry entries₀ x) s (table_entry entries₀ s) d.actions
  pub settled_is : x'.settled ≡ set x₀.settled x true
  pub selecting : Selecting entries x'
  pub above : NoneAbove (length entries) entries bound
  pub picked : Picked entries x'.settled (length entries) 0 (length entries) next

-- the values that a goal asks, 0 where it asks none, and the variables of which it asks none
unfoldable pub goal_values : List ℕ → State
goal_values goal v = let value = get_or goal v 0 in cond (eqb value 255) 0 value

abbrev pub GoalFree : (variables : ℕ) (goal : List ℕ) (free : ℕ) → Type 0
GoalFree variables goal free = (v : ℕ) → v < variables → in_word free v ≡ eqb (get_or goal v 0) 255

-- few variables, of small weights
pub record SmallWeights (variables : ℕ) (weights : List ℕ) : Type 0 where
  pub variables_few : variables ≤ 64
  pub weights_few : (v : ℕ) → v < variables → get_or weights v 0 ≤ 4096

-- the values that a goal asks are values of its variables
abbrev pub GoalInside : Arrays → Type 0
GoalInside d = (v : ℕ) → v < d.variables → (get_or d.goal v 0 ≡ 255 → ⊥) → get_or d.goal v 0 < get_or d.sizes v 0

-- the first entries
pub record Begun (d : Arrays) (x₀ : Selection) (entries : List Entry) (x : Selection) : Type 0 where
  pub first : (s : ℕ) → s < length entries → table_entry entries s ≡ first_entry (all_hold (row_pairs d.goal 0 0 d.variables) (state_at (row_variables d.variables d.sizes d.starts) s))
  pub settled_is : x.settled ≡ x₀.settled
  pub selecting : Selecting entries x

-- what the search of arrays asks and gives
pub record CanSearch (d : Arrays) (count : ℕ) (moves : List Move) (weights : List ℕ) : Type 0 where
  pub accepted : accepted_task (held d) ≡ true
  pub states : count ≡ state_count (held d).variables
  pub few : count ≤ 4096
  pub weights_are : WeightsOf d.variables d.sizes weights
  pub moves_are : MovesIn d.variables d.actions d.sizes d.conditions d.effects moves

pub record TableIn (t : Task) (entries : List Entry) (r : ℕ) : Type 0 where
  pub start : r ≡ start_number t
  pub table : entries ≡ table_of t
