-- Tasks: variables, values and actions are numbered from 0. The signer of a file is no part of its task.
use Rattle.std.specs.Prelude.{ℕ, Bool, cond, List, [], ◌∷◌, length, get_or, eqb}
use Rattle.std.proofs.Math.Option.{Option, none, some}
use Rattle.files.specs.Below.{sum_below, any_of}

-- a fact: a variable with a value of it
pub record Pair : Type 0 where
  pub variable : ℕ
  pub value : ℕ

pub record Variable : Type 0 where
  pub size : ℕ
  pub start : ℕ

pub record Action : Type 0 where
  pub cost : ℕ
  pub conditions : List Pair
  pub effects : List Pair

pub record Task : Type 0 where
  pub variables : List Variable
  pub goal : List Pair
  pub actions : List Action

abbrev pub pair : ℕ → ℕ → Pair
pair variable value = record { variable = variable; value = value }

abbrev pub variable : ℕ → ℕ → Variable
variable size start = record { size = size; start = start }

abbrev pub action : ℕ → List Pair → List Pair → Action
action cost conditions effects = record { cost = cost; conditions = conditions; effects = effects }

abbrev pub variable_count : Task → ℕ
variable_count t = length t.variables

abbrev pub action_count : Task → ℕ
action_count t = length t.actions

-- the variable and the action of a number; past the last ones, one that has no value and one that does nothing
abbrev pub variable_of : Task → ℕ → Variable
variable_of t v = get_or t.variables v (variable 0 0)

abbrev pub action_of : Task → ℕ → Action
action_of t a = get_or t.actions a (action 0 [] [])

abbrev pub size_of : Task → ℕ → ℕ
size_of t v = (variable_of t v).size

abbrev pub start_of : Task → ℕ → ℕ
start_of t v = (variable_of t v).start

-- facts are numbered by variable, then value
abbrev pub fact_count : Task → ℕ
fact_count t = sum_below (variable_count t) (size_of t)

-- the list has a pair on the variable
abbrev pub mentions : List Pair → ℕ → Bool
mentions pairs v = any_of (λ p. eqb p.variable v) pairs

-- the value that the list gives the variable, if any
abbrev pub value_in : List Pair → ℕ → Option ℕ
value_in [] v = none
value_in (p ∷ ps) v = cond (eqb p.variable v) (some p.value) (value_in ps v)
