-- What each action does to the number of a state: what its effects add, what their conditions take away, and the variables that it sets without a condition.
use Rattle.std.specs.Prelude.{ℕ, zero, suc, ◌+◌, ◌*◌, ◌≤◌, ◌<◌, ◌≡◌, Bool, not, cond, ◌&&◌, ◌||◌, List, eqb, ltb, get_or}
use Rattle.files.specs.Below.{sum_below}
use Rattle.plans.specs.State.{State}
use Rattle.bits.specs.Sets.{in_word}
use Rattle.lookup.specs.declared.moves.Move.{Move}

-- what a change of one in the value of variable v adds to the number of a state
unfoldable pub row_weight : List ℕ → ℕ → ℕ
row_weight sizes zero = 1
row_weight sizes (suc v) = row_weight sizes v * get_or sizes v 0

-- what the values of the first n variables add to the number of a state
unfoldable pub weighted : List ℕ → State → ℕ → ℕ
weighted sizes s n = sum_below n (λ v. row_weight sizes v * s v)

-- the values that the effects of the step at `base` set, 0 elsewhere
unfoldable pub set_by : List ℕ → ℕ → State
set_by effects base v = let effect = get_or effects (base + v) 0 in cond (eqb effect 255) 0 effect

-- the values that conditions ask of variables which the step sets, 0 elsewhere
unfoldable pub asked_of : List ℕ → List ℕ → ℕ → State
asked_of conditions effects base v =
    let condition = get_or conditions (base + v) 0 in
    cond (eqb (get_or effects (base + v) 0) 255 || eqb condition 255) 0 condition

-- the step sets variable v, and asks nothing of it
unfoldable pub set_freely : List ℕ → List ℕ → ℕ → ℕ → Bool
set_freely conditions effects base v = not (eqb (get_or effects (base + v) 0) 255) && eqb (get_or conditions (base + v) 0) 255

-- the move of an action past the last
abbrev pub no_move : Move
no_move = record { set = 0; asked = 0; free = 0 }

-- the move of the step at `base`
pub record MoveOf (variables base : ℕ) (sizes conditions effects : List ℕ) (m : Move) : Type 0 where
  pub set : m.set ≡ weighted sizes (set_by effects base) variables
  pub asked : m.asked ≡ weighted sizes (asked_of conditions effects base) variables
  pub free : (v : ℕ) → v < 64 → in_word m.free v ≡ ltb v variables && set_freely conditions effects base v

-- the moves of the actions
abbrev pub MovesIn : (variables actions : ℕ) (sizes conditions effects : List ℕ) (moves : List Move) → Type 0
MovesIn variables actions sizes conditions effects moves = (a : ℕ) → a < actions → MoveOf variables (64 * a) sizes conditions effects (get_or moves a no_move)

-- few variables and actions, and small weights
pub record CanFillMoves (variables actions : ℕ) (weights : List ℕ) : Type 0 where
  pub variables_few : variables ≤ 64
  pub actions_few : actions ≤ 512
  pub weights_few : (v : ℕ) → v < variables → get_or weights v 0 ≤ 4096

-- the array of weights has those of the variables
abbrev pub WeightsOf : (variables : ℕ) (sizes weights : List ℕ) → Type 0
WeightsOf variables sizes weights = (v : ℕ) → v < variables → get_or weights v 0 ≡ row_weight sizes v

-- what the effects of the step at `base` add, and what their conditions take away
pub record SumsOf (variables base : ℕ) (sizes conditions effects : List ℕ) (set asked : ℕ) : Type 0 where
  pub set_is : set ≡ weighted sizes (set_by effects base) variables
  pub asked_is : asked ≡ weighted sizes (asked_of conditions effects base) variables
