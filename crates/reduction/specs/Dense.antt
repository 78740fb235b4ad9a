-- Kept variables, new values and reduced rows, by the cells of dense arrays: what the code's parts work out.
use Rattle.std.specs.Prelude.{ℕ, ◌+◌, ◌*◌, ◌%◌, Bool, false, not, cond, ◌&&◌, ◌||◌, List, eqb, ltb, get_or, replicate}
use Rattle.files.specs.Below.{any_below, bit, count_below}
use Rattle.marking.specs.Dense.{is_marked, threatens_anew, row_names, names_anew}

-- no marks
abbrev pub unmarked : List ℕ
unmarked = replicate 512 0

-- a named fact at a place: of the goal, or a condition of a kept action, each its own fact alone
unfoldable pub named_at : List ℕ → List ℕ → List ℕ → List ℕ → ℕ → ℕ → ℕ → Bool
named_at goal conditions sizes kept variables actions i =
    names_anew false conditions sizes variables kept unmarked actions i || row_names false goal 0 sizes variables i

-- a kept action sets the variable to a value other than its start value
unfoldable pub changed_at : List ℕ → List ℕ → List ℕ → ℕ → ℕ → ℕ → Bool
changed_at effects starts kept variables actions v = threatens_anew effects starts variables kept unmarked actions v

-- value d of variable v is named
abbrev pub named_value : List ℕ → ℕ → ℕ → Bool
named_value named v d = is_marked named (32 * v + d)

-- how many values of a variable are named
unfoldable pub named_in : List ℕ → ℕ → ℕ
named_in named v = count_below 32 (named_value named v)

-- a named value other than the start value
unfoldable pub other_named : List ℕ → ℕ → ℕ → Bool
other_named named start v = any_below 32 (λ d. named_value named v d && not (eqb d start))

-- a variable is kept: it has a named fact, and is not settled
unfoldable pub keeps_at : List ℕ → List ℕ → List ℕ → ℕ → Bool
keeps_at named changed starts v = not (eqb (named_in named v) 0) && (is_marked changed v || other_named named (get_or starts v 0) v)

-- the new number of a value
unfoldable pub new_value_at : List ℕ → ℕ → ℕ → ℕ
new_value_at named v d = cond (named_value named v d) (count_below d (named_value named v)) (named_in named v)

unfoldable pub new_size_at : List ℕ → ℕ → ℕ → ℕ
new_size_at named v size = named_in named v + bit (ltb (named_in named v) size)

-- a cell of a row by new values: 255 is no pair
unfoldable pub mapped_cell : List ℕ → ℕ → ℕ → ℕ
mapped_cell values v cell = cond (eqb cell 255) 255 (get_or values (32 * v + cell % 32) 0)
