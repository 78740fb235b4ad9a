-- Rows of the dense arrays as they are filled, pair by pair and action by action.
use Rattle.std.specs.Prelude.{ℕ, zero, suc, ◌+◌, ◌*◌, ◌%◌, cond, List, [], ◌∷◌, map, ltb, set}
use Rattle.files.specs.declared.arrays.Arrays.{Arrays}
use Rattle.files.specs.Bytes.{placed}
use Rattle.files.specs.Task.{Pair, Variable, Action, Task, variable_count, action_count}

-- `count` cells from `at` on that say no pair
unfoldable pub cleared : List ℕ → ℕ → ℕ → List ℕ
cleared row at zero = row
cleared row at (suc count) = cleared (set row at 255) (at + 1) count

-- the cell of a variable below 64 set to the lower byte of a value
unfoldable pub stored : List ℕ → ℕ → ℕ → ℕ → List ℕ
stored row base v value = cond (ltb v 64) (set row (base + v) (value % 256)) row

unfoldable pub filled : List ℕ → ℕ → List Pair → List ℕ
filled row base [] = row
filled row base (p ∷ ps) = filled (stored row base p.variable p.value) base ps

-- a row of 64 cells for each list of pairs
unfoldable pub filled_rows : List ℕ → ℕ → List (List Pair) → List ℕ
filled_rows rows base [] = rows
filled_rows rows base (ps ∷ rest) = filled_rows (filled (cleared rows base 64) base ps) (base + 64) rest

-- what is stored of variables and actions
unfoldable pub stored_sizes : List Variable → List ℕ
stored_sizes variables = map (λ v. v.size % 256) variables

unfoldable pub stored_starts : List Variable → List ℕ
stored_starts variables = map (λ v. v.start % 256) variables

unfoldable pub stored_costs : List Action → List ℕ
stored_costs actions = map (λ a. a.cost) actions

unfoldable pub condition_lists : List Action → List (List Pair)
condition_lists actions = map (λ a. a.conditions) actions

unfoldable pub effect_lists : List Action → List (List Pair)
effect_lists actions = map (λ a. a.effects) actions

-- arrays with variables stored from variable v on, with a goal, with action a, and with actions from action a on
abbrev pub variables_stored : ℕ → List Variable → Arrays → Arrays
variables_stored v variables d = record d { sizes = placed d.sizes v (stored_sizes variables); starts = placed d.starts v (stored_starts variables) }

abbrev pub goal_stored : List Pair → Arrays → Arrays
goal_stored goal d = record d { goal = filled (cleared d.goal 0 64) 0 goal }

abbrev pub action_stored : ℕ → Action → Arrays → Arrays
action_stored a x d =
    record d {
      costs = set d.costs a x.cost;
      conditions = filled (cleared d.conditions (64 * a) 64) (64 * a) x.conditions;
      effects = filled (cleared d.effects (64 * a) 64) (64 * a) x.effects;
    }

abbrev pub actions_stored : ℕ → List Action → Arrays → Arrays
actions_stored a actions d =
    record d {
      costs = placed d.costs a (stored_costs actions);
      conditions = filled_rows d.conditions (64 * a) (condition_lists actions);
      effects = filled_rows d.effects (64 * a) (effect_lists actions);
    }

-- with a task
abbrev pub task_stored : Task → Arrays → Arrays
task_stored t d = actions_stored 0 t.actions (goal_stored t.goal (variables_stored 0 t.variables (record d { variables = variable_count t; actions = action_count t })))
