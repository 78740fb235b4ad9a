-- The tables of a task that is searched.
use Rattle.std.specs.Prelude.{ℕ, ◌≤◌, ◌<◌, ◌≡◌, List, get_or}
use Rattle.files.specs.declared.arrays.Arrays.{Arrays}
use Rattle.distances.specs.Rows.{row_states, Searchable}
use Rattle.lookup.specs.FactRows.{FewFacts, RowsByFact}
use Rattle.lookup.specs.Moves.{WeightsOf, MovesIn}
use Rattle.lookup.specs.declared.moves.Move.{Move}

-- the states of variables, and their numbers
pub record Numbered (variables count : ℕ) (sizes weights : List ℕ) : Type 0 where
  pub variables_few : variables ≤ 64
  pub size_least : (v : ℕ) → v < variables → 1 ≤ get_or sizes v 0
  pub states : count ≡ row_states variables sizes
  pub few : count ≤ 4096
  pub weights_are : WeightsOf variables sizes weights

-- the tables of the search are those of arrays: the actions that can lead to each fact, and their moves
pub record SearchTables (variables actions : ℕ) (sizes costs conditions effects rows : List ℕ) (moves : List Move) : Type 0 where
  pub asked : Searchable variables actions sizes costs conditions effects
  pub rows_are : RowsByFact variables actions sizes conditions effects rows
  pub moves_are : MovesIn variables actions sizes conditions effects moves

-- weights, rows and moves are those of a task
pub record TablesOf (d : Arrays) (weights rows : List ℕ) (moves : List Move) : Type 0 where
  pub numbered : Numbered d.variables (row_states d.variables d.sizes) d.sizes weights
  pub tables : SearchTables d.variables d.actions d.sizes d.costs d.conditions d.effects rows moves
  pub facts : FewFacts d.variables d.sizes rows
