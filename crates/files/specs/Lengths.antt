-- How many bytes the files of what arrays hold take.
use Rattle.std.specs.Prelude.{ℕ, zero, suc, ◌+◌, ◌*◌, List, length, get_or}
use Rattle.files.specs.Dense.{row_pairs}
use Rattle.files.specs.declared.arrays.Arrays.{Arrays}
use Rattle.files.specs.declared.arrays.OriginArrays.{OriginArrays}

unfoldable pub action_needed : ℕ → List ℕ → List ℕ → ℕ → ℕ
action_needed variables conditions effects a =
    12 + 4 * length (row_pairs conditions (64 * a) 0 variables) + 4 * length (row_pairs effects (64 * a) 0 variables)

-- `count` actions from a on
unfoldable pub actions_needed : ℕ → List ℕ → List ℕ → ℕ → ℕ → ℕ
actions_needed variables conditions effects a zero = 0
actions_needed variables conditions effects a (suc count) =
    action_needed variables conditions effects a + actions_needed variables conditions effects (a + 1) count

unfoldable pub task_needed : ℕ → ℕ → List ℕ → List ℕ → List ℕ → ℕ
task_needed variables actions goal conditions effects =
    24 + 8 * variables + 4 * length (row_pairs goal 0 0 variables) + actions_needed variables conditions effects 0 actions

-- of the task that arrays hold
abbrev pub task_length : Arrays → ℕ
task_length d = task_needed d.variables d.actions d.goal d.conditions d.effects

-- `count` variable origins from place i on
unfoldable pub origins_needed : List ℕ → ℕ → ℕ → ℕ
origins_needed sizes i zero = 0
origins_needed sizes i (suc count) = 6 + 2 * get_or sizes i 0 + origins_needed sizes (i + 1) count

unfoldable pub origin_needed : ℕ → ℕ → List ℕ → ℕ
origin_needed variables actions sizes = 16 + origins_needed sizes 0 variables + 2 * actions

-- of the origins that arrays hold
abbrev pub origin_length : OriginArrays → ℕ
origin_length d = origin_needed d.variables d.actions d.sizes
