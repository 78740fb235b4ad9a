-- A task as dense arrays of numbers: what the code works on in place of a file.
use Rattle.std.specs.Prelude.{ℕ, zero, suc, ◌+◌, ◌*◌, ◌≤◌, ◌<◌, cond, List, [], ◌∷◌, eqb, get_or}
use Rattle.files.specs.Below.{tabulate}
use Rattle.files.specs.Task.{Pair, Variable, Action, Task, pair, variable, action}
use Rattle.files.specs.OriginFile.{VariableOrigin, Origin}
-- a number per variable, a number per action, and for each action a row of 64 cells, one per variable;
-- in a row 255 stands for no pair
pub use Rattle.files.specs.declared.arrays.Arrays.{Arrays}
-- origins as arrays: original variables, how many values each has, a row of 32 new values for each, original actions
pub use Rattle.files.specs.declared.arrays.OriginArrays.{OriginArrays}

-- the pairs of `count` cells of the row at `base`, from variable v on
unfoldable pub row_pairs : List ℕ → ℕ → ℕ → ℕ → List Pair
row_pairs row base v zero = []
row_pairs row base v (suc count) =
    let rest = row_pairs row base (v + 1) count in
    cond (eqb (get_or row (base + v) 0) 255) rest (pair v (get_or row (base + v) 0) ∷ rest)

-- variable v and action a, by their cells
unfoldable pub row_variable : List ℕ → List ℕ → ℕ → Variable
row_variable sizes starts v = variable (get_or sizes v 0) (get_or starts v 0)

unfoldable pub row_action : ℕ → List ℕ → List ℕ → List ℕ → ℕ → Action
row_action variables costs conditions effects a =
    action
    (get_or costs a 0)
    (row_pairs conditions (64 * a) 0 variables)
    (row_pairs effects (64 * a) 0 variables)

-- the task that arrays hold
unfoldable pub held : Arrays → Task
held d =
    record {
      variables = tabulate d.variables (row_variable d.sizes d.starts);
      goal = row_pairs d.goal 0 0 d.variables;
      actions = tabulate d.actions (row_action d.variables d.costs d.conditions d.effects);
    }

-- the numbers of `count` cells from `base` on
unfoldable pub row_numbers : List ℕ → ℕ → ℕ → List ℕ
row_numbers row base count = tabulate count (λ i. get_or row (base + i) 0)

-- the variable origin at place i
unfoldable pub row_origin : List ℕ → List ℕ → List ℕ → ℕ → VariableOrigin
row_origin numbers sizes values i = record { variable = get_or numbers i 0; values = row_numbers values (32 * i) (get_or sizes i 0) }

-- each of `count` variables has at most 32 values
abbrev pub OriginSizes : List ℕ → ℕ → Type 0
OriginSizes sizes count = (i : ℕ) → i < count → get_or sizes i 0 ≤ 32

-- the origins that arrays hold
unfoldable pub held_origin : OriginArrays → Origin
held_origin d =
    record {
      variables = tabulate d.variables (row_origin d.numbers d.sizes d.values);
      actions = row_numbers d.originals 0 d.actions;
    }

abbrev pub arrays : ℕ → ℕ → List ℕ → List ℕ → List ℕ → List ℕ → List ℕ → List ℕ → Arrays
arrays variables actions sizes starts goal costs conditions effects =
    record {
      variables = variables;
      actions = actions;
      sizes = sizes;
      starts = starts;
      goal = goal;
      costs = costs;
      conditions = conditions;
      effects = effects;
    }

abbrev pub origin_arrays : ℕ → ℕ → List ℕ → List ℕ → List ℕ → List ℕ → OriginArrays
origin_arrays variables actions numbers sizes values originals =
    record {
      variables = variables;
      actions = actions;
      numbers = numbers;
      sizes = sizes;
      values = values;
      originals = originals;
    }
