-- Task E, and the form of a table of cases: what the definitions find, and what the document says.
use Rattle.std.specs.Prelude.{ℕ, Bool, List, [], ◌∷◌, ◌++◌, eqb, replicate}
use Rattle.files.specs.Outcome.{Outcome}
use Rattle.files.specs.Below.{same_list}
use Rattle.files.specs.Task.{Pair, Variable, Action, pair, variable, action}
use Rattle.files.specs.TaskFile.{task_file}

-- task E: station, lamp and line
abbrev pub variables_e : List Variable
variables_e = variable 3 0 ∷ variable 2 1 ∷ variable 3 0 ∷ []

abbrev pub goal_e : List Pair
goal_e = pair 1 1 ∷ pair 2 1 ∷ []

-- actions 0 and 1, and the others
abbrev pub line_actions : List Action
line_actions =
    action 2 (pair 0 1 ∷ []) (pair 2 1 ∷ [])
    ∷ action 2 [] (pair 2 1 ∷ [])
    ∷ []

abbrev pub other_actions : List Action
other_actions =
    action 1 [] (pair 0 1 ∷ [])
    ∷ action 0 [] (pair 2 2 ∷ [])
    ∷ action 1 [] (pair 1 1 ∷ [])
    ∷ action 1 [] (pair 1 0 ∷ [])
    ∷ action 1 (pair 0 1 ∷ []) (pair 0 2 ∷ [])
    ∷ []

-- the file of E, of E without actions 0 and 1, and of E with the goal lamp=1 alone
abbrev pub file_e : List ℕ
file_e = task_file (record { variables = variables_e; goal = goal_e; actions = line_actions ++ other_actions }) 7

abbrev pub file_without_line : List ℕ
file_without_line = task_file (record { variables = variables_e; goal = goal_e; actions = other_actions }) 7

abbrev pub file_lamp_alone : List ℕ
file_lamp_alone = task_file (record { variables = variables_e; goal = pair 1 1 ∷ []; actions = line_actions ++ other_actions }) 7

-- buffers that held 9 before
abbrev pub used : ℕ → List ℕ
used n = replicate n 9

-- an outcome as numbers
abbrev pub outcome_parts : Outcome → List ℕ
outcome_parts o = o.number ∷ o.file ∷ o.place ∷ []

-- a row of the table
pub record Case : Type 0 where
  pub found : List ℕ
  pub expected : List ℕ

abbrev pub case : List ℕ → List ℕ → Case
case found expected = record { found = found; expected = expected }

-- the definitions find what the document says
unfoldable pub as_expected : Case → Bool
as_expected c = same_list eqb c.found c.expected
