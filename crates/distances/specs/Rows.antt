-- Tasks as rows of arrays: the numbers of states, and the steps to a settled state.
use Rattle.std.specs.Prelude.{ℕ, zero, suc, ◌+◌, ◌*◌, ◌≤◌, ◌<◌, ◌≡◌, Bool, not, cond, ◌&&◌, List, [], eqb, leb, get_or}
use Rattle.files.specs.Below.{tabulate, all_below}
use Rattle.files.specs.Dense.{row_variable}
use Rattle.files.specs.Task.{Variable, Action}
use Rattle.plans.specs.State.{State, applicable, apply}
use Rattle.plans.specs.Tally.{meets_cell}
use Rattle.lookup.specs.FactRows.{can_have}
use Rattle.distances.specs.States.{state_count, state_number, state_at}
use Rattle.distances.specs.Entries.{lowered, after_step}
use Rattle.distances.specs.declared.Entry.{Entry}

-- an action leads from state s to state x
unfoldable pub leads_to : List Variable → Action → ℕ → ℕ → Bool
leads_to variables a s x = applicable a (state_at variables s) && eqb (state_number variables (apply a (state_at variables s))) x

-- the entry y of state s after the steps of the first `count` actions to state x, whose entry is e
unfoldable pub offered : List Variable → (ℕ → Action) → ℕ → Entry → ℕ → Entry → ℕ → Entry
offered variables action x e s y zero = y
offered variables action x e s y (suc count) =
    let before = offered variables action x e s y count in
    cond (leads_to variables (action count) s x) (lowered (after_step (action count) e) before) before

-- the variables of arrays, and the count of their states, which no start value changes
abbrev pub row_variables : ℕ → List ℕ → List ℕ → List Variable
row_variables variables sizes starts = tabulate variables (row_variable sizes starts)

unfoldable pub row_states : ℕ → List ℕ → ℕ
row_states variables sizes = state_count (row_variables variables sizes [])

-- the state of a number, which no start value changes
unfoldable pub row_state : ℕ → List ℕ → ℕ → State
row_state variables sizes n = state_at (row_variables variables sizes []) n

-- the step at `base` can lead to state s
unfoldable pub can_reach : List ℕ → List ℕ → ℕ → ℕ → State → Bool
can_reach conditions effects base variables s =
    all_below variables (λ v. can_have (get_or conditions (base + v) 0) (get_or effects (base + v) 0) (s v))

-- state r is state s except in the variables from `from` on that the effects set, where the conditions hold in r
unfoldable pub differs_only : List ℕ → List ℕ → ℕ → ℕ → ℕ → State → State → Bool
differs_only conditions effects base variables from s r =
    all_below variables
    (λ v.
    cond
    (leb from v && not (eqb (get_or effects (base + v) 0) 255))
    (meets_cell (get_or conditions (base + v) 0) (r v))
    (eqb (r v) (s v)))

-- variables as many as a row has cells, each with a value
pub record Sized (variables : ℕ) (sizes : List ℕ) : Type 0 where
  pub few : variables ≤ 64
  pub least : (v : ℕ) → v < variables → 1 ≤ get_or sizes v 0

-- and few states
pub record FewStates (variables : ℕ) (sizes : List ℕ) : Type 0 where
  pub sized : Sized variables sizes
  pub states : row_states variables sizes ≤ 4096

-- the count of states, or a number above 4,096 where they are more than that
pub record Counted (variables : ℕ) (sizes : List ℕ) (r : ℕ) : Type 0 where
  pub few : r ≤ 4096 → r ≡ row_states variables sizes
  pub many : 4096 < r → 4096 < row_states variables sizes

-- values of few variables with few states
pub record ValuesInside (variables : ℕ) (sizes values : List ℕ) : Type 0 where
  pub few : variables ≤ 64
  pub states : row_states variables sizes ≤ 4096
  pub inside : (v : ℕ) → v < variables → get_or values v 0 < get_or sizes v 0

-- what the search asks of arrays
pub record Searchable (variables actions : ℕ) (sizes costs conditions effects : List ℕ) : Type 0 where
  pub variables_few : variables ≤ 64
  pub actions_few : actions ≤ 512
  pub size_least : (v : ℕ) → v < variables → 1 ≤ get_or sizes v 0
  pub condition_inside : (a v : ℕ) → a < actions → v < variables → (get_or conditions (64 * a + v) 0 ≡ 255 → ⊥) → get_or conditions (64 * a + v) 0 < get_or sizes v 0
  pub effect_inside : (a v : ℕ) → a < actions → v < variables → (get_or effects (64 * a + v) 0 ≡ 255 → ⊥) → get_or effects (64 * a + v) 0 < get_or sizes v 0
  pub cost_most : (a : ℕ) → a < actions → get_or costs a 0 ≤ 1000000
  pub states_few : row_states variables sizes ≤ 4096
