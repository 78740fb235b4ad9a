-- The task that kept actions leave, its origins, and the actions kept at a level of marking.
use Rattle.std.specs.Prelude.{ℕ, Bool, cond, List, [], ◌∷◌, map}
use Rattle.files.specs.Below.{tabulate, chosen_below}
use Rattle.files.specs.Task.{Pair, Variable, Action, Task, pair, variable, action, variable_count, action_count, action_of, size_of, start_of}
use Rattle.files.specs.OriginFile.{Origin}
use Rattle.marking.specs.Marks.{kept}
use Rattle.marking.specs.Rounds.{marking}
use Rattle.reduction.specs.Named.{kept_variable}
use Rattle.reduction.specs.Renumber.{new_variable, new_value, new_size}

-- kept variables and kept actions by their original numbers, in order
unfoldable pub kept_variables : Task → (ℕ → Bool) → List ℕ
kept_variables t A = chosen_below (variable_count t) (kept_variable t A)

unfoldable pub kept_actions : Task → (ℕ → Bool) → List ℕ
kept_actions t A = chosen_below (action_count t) A

-- pairs of dropped variables go with them
unfoldable pub reduced_pairs : Task → (ℕ → Bool) → List Pair → List Pair
reduced_pairs t A [] = []
reduced_pairs t A (p ∷ ps) =
    cond
    (kept_variable t A p.variable)
    (pair (new_variable t A p.variable) (new_value t A p.variable p.value) ∷ reduced_pairs t A ps)
    (reduced_pairs t A ps)

unfoldable pub reduced_variable : Task → (ℕ → Bool) → ℕ → Variable
reduced_variable t A v = variable (new_size t A v) (new_value t A v (start_of t v))

unfoldable pub reduced_action : Task → (ℕ → Bool) → Action → Action
reduced_action t A a = action a.cost (reduced_pairs t A a.conditions) (reduced_pairs t A a.effects)

unfoldable pub reduced_by : Task → (ℕ → Bool) → Task
reduced_by t A =
    record {
      variables = map (reduced_variable t A) (kept_variables t A);
      goal = reduced_pairs t A t.goal;
      actions = map (λ a. reduced_action t A (action_of t a)) (kept_actions t A);
    }

-- a variable origin for each kept variable, and the kept actions
unfoldable pub origin_by : Task → (ℕ → Bool) → Origin
origin_by t A =
    record {
      variables = map (λ v. record { variable = v; values = tabulate (size_of t v) (new_value t A v) }) (kept_variables t A);
      actions = kept_actions t A;
    }

-- the actions kept at a level
unfoldable pub kept_at : Task → ℕ → ℕ → Bool
kept_at t level = kept (marking t level).marks
