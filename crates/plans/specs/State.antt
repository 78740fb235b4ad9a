-- States: when a condition holds, when an action is applicable, and the state after it.
use Rattle.std.specs.Prelude.{ℕ, Bool, ◌&&◌, List, eqb}
use Rattle.std.proofs.Math.Option.{get_or}
use Rattle.files.specs.Below.{any_of, all_of}
use Rattle.files.specs.Task.{Pair, Action, Task, start_of, value_in}

-- a value for each variable
abbrev pub State : Type 0
State = ℕ → ℕ

unfoldable pub start_state : Task → State
start_state t v = start_of t v

-- the values of its variable that a condition admits
unfoldable pub admits : Pair → ℕ → Bool
admits condition value = eqb condition.value value

-- a condition holds in a state
unfoldable pub holds : Pair → State → Bool
holds condition s = admits condition (s condition.variable)

unfoldable pub all_hold : List Pair → State → Bool
all_hold conditions s = all_of (λ c. holds c s) conditions

-- a condition of the list admits the fact of the variable and the value
unfoldable pub has_fact : List Pair → ℕ → ℕ → Bool
has_fact conditions v value = any_of (λ c. eqb c.variable v && admits c value) conditions

unfoldable pub applicable : Action → State → Bool
applicable a s = all_hold a.conditions s

-- the effects replace their variables' values
unfoldable pub apply : Action → State → State
apply a s v = get_or (value_in a.effects v) (s v)
