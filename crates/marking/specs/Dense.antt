-- Marks as dense arrays of bytes, one cell per action and 32 per variable, and the tests that the code makes on cells.
use Rattle.std.specs.Prelude.{ℕ, ◌+◌, ◌*◌, ◌/◌, ◌%◌, ◌<◌, ◌≡◌, Bool, not, cond, ◌&&◌, ◌||◌, List, [], eqb, leb, ltb, length, get_or}
use Rattle.bits.specs.Sets.{in_words}
use Rattle.files.specs.Below.{tabulate, any_below, bit, count_below}
use Rattle.files.specs.Dense.{row_pairs}
use Rattle.files.specs.Task.{Action, Task, action, variable_count, action_count, size_of}
use Rattle.marking.specs.Marks.{kept}
use Rattle.marking.specs.Covering.{could_cover}
use Rattle.marking.specs.Rounds.{marking}
use Rattle.marking.specs.Mark.{fact_mark}

abbrev pub is_marked : List ℕ → ℕ → Bool
is_marked marks i = eqb (get_or marks i 0) 1

-- the second list is the first with 1 at each place that passes
pub record SetWhere (test : ℕ → Bool) (old new : List ℕ) : Type 0 where
  pub same : length new ≡ length old
  pub entry : (i : ℕ) → i < length old → get_or new i 0 ≡ cond (test i) 1 (get_or old i 0)

-- two lists of marks differ at a place
abbrev pub differ : List ℕ → List ℕ → ℕ → Bool
differ marks others i = not (eqb (get_or marks i 0) (get_or others i 0))

-- a cell of a row is there and is not the value given: 255 is no pair
unfoldable pub other_than : ℕ → ℕ → Bool
other_than cell value = not (eqb cell 255) && not (eqb cell value)

-- of the first `count` variables, those that the effects at `base` set to other values than their start values
unfoldable pub threatens : List ℕ → ℕ → List ℕ → ℕ → ℕ → Bool
threatens effects base starts count v = ltb v count && other_than (get_or effects (base + v) 0) (get_or starts v 0)

-- the variables that actions threaten which are kept and were not looked at before, of the first `count`
unfoldable pub threatens_anew : List ℕ → List ℕ → ℕ → List ℕ → List ℕ → ℕ → ℕ → Bool
threatens_anew effects starts variables kept kept_before_here count v = any_below count (λ a. differ kept kept_before_here a && threatens effects (64 * a) starts variables v)

-- linked, by the cells of a variable
unfoldable pub linked_cell : ℕ → ℕ → ℕ → ℕ → Bool
linked_cell level value start threat = leb 3 level && (eqb value start && eqb threat 0)

-- in F and not linked, at the place of a fact
unfoldable pub unlinked_at : ℕ → List ℕ → List ℕ → List ℕ → ℕ → Bool
unlinked_at level facts starts threats i =
    is_marked facts i && not (linked_cell level (i % 32) (get_or starts (i / 32) 0) (get_or threats (i / 32) 0))

-- of the first `count` actions, those that set a variable to a value
unfoldable pub sets : List ℕ → ℕ → ℕ → ℕ → ℕ → Bool
sets effects v value count a = ltb a count && eqb (get_or effects (64 * a + v) 0) value

-- the actions with an effect among the facts that became unlinked, of the first `count` places
unfoldable pub achieves : List ℕ → ℕ → List ℕ → List ℕ → ℕ → ℕ → Bool
achieves effects actions unlinked_before_here unlinked count a = any_below count (λ i. differ unlinked unlinked_before_here i && sets effects (i / 32) (i % 32) actions a)

-- the variable has an unlinked fact
unfoldable pub tracked_at : List ℕ → ℕ → Bool
tracked_at unlinked v = any_below 32 (λ d. is_marked unlinked (32 * v + d))

-- how many conditions of the row at `base` do not stand in the row at `other`
unfoldable pub missing : List ℕ → ℕ → ℕ → ℕ → ℕ
missing conditions base other count = count_below count (λ v. other_than (get_or conditions (base + v) 0) (get_or conditions (other + v) 0))

-- how many conditions the row at `base` has
unfoldable pub conditions_in : List ℕ → ℕ → ℕ → ℕ
conditions_in conditions base count = count_below count (λ v. not (eqb (get_or conditions (base + v) 0) 255))

-- what covering asks of an action in every round: its cost and its conditions
abbrev pub asked_by : List ℕ → List ℕ → ℕ → ℕ → Action
asked_by costs conditions variables a = action (get_or costs a 0) (row_pairs conditions (64 * a) 0 variables) []

-- b could cover a, by cost and conditions
abbrev pub could_cover_at : List ℕ → List ℕ → ℕ → ℕ → ℕ → Bool
could_cover_at costs conditions variables b a = could_cover (asked_by costs conditions variables b) (asked_by costs conditions variables a)

-- on how many tracked variables the effects at `base` and at `other` are unlike
unfoldable pub unlike : List ℕ → List ℕ → ℕ → ℕ → ℕ → ℕ
unlike effects tracked base other count = count_below count (λ v. is_marked tracked v && not (eqb (get_or effects (base + v) 0) (get_or effects (other + v) 0)))

-- b is kept and its effects on tracked variables are those of a
unfoldable pub kept_alike : List ℕ → List ℕ → List ℕ → ℕ → ℕ → ℕ → Bool
kept_alike kept effects tracked variables b a = is_marked kept b && eqb (unlike effects tracked (64 * b) (64 * a) variables) 0

-- b is kept and covers a, by the table of what could cover what: the actions in the set at 8 * a could cover a
unfoldable pub covers_at : List ℕ → List ℕ → List ℕ → List ℕ → ℕ → ℕ → ℕ → Bool
covers_at kept table effects tracked variables b a = in_words table (8 * a) b && kept_alike kept effects tracked variables b a

unfoldable pub covered_at : List ℕ → List ℕ → List ℕ → List ℕ → ℕ → ℕ → ℕ → Bool
covered_at kept table effects tracked variables actions a = any_below actions (λ b. covers_at kept table effects tracked variables b a)

-- the conditions of a are among F, or it is kept and, at level 4, not covered
unfoldable pub counted_at : ℕ → List ℕ → List ℕ → Bool → ℕ → Bool
counted_at level kept counted_before_here is_covered a = is_marked counted_before_here a || (is_marked kept a && not (eqb level 4 && is_covered))

-- the facts that a cell of a row names, by their places: all of its variable's where that counts whole, else its own
unfoldable pub names_at : Bool → ℕ → ℕ → ℕ → ℕ → Bool
names_at whole v cell size i = not (eqb cell 255) && (eqb (i / 32) v && cond whole (ltb (i % 32) size) (eqb (i % 32) (cell % 32)))

-- the facts that the first `count` cells of the row at `base` name
unfoldable pub row_names : Bool → List ℕ → ℕ → List ℕ → ℕ → ℕ → Bool
row_names whole row base sizes count i = any_below count (λ v. names_at whole v (get_or row (base + v) 0) (get_or sizes v 0) i)

-- the facts that actions name which are counted and were not before, of the first `count`
unfoldable pub names_anew : Bool → List ℕ → List ℕ → ℕ → List ℕ → List ℕ → ℕ → ℕ → Bool
names_anew whole conditions sizes variables counted counted_before_here count i = any_below count (λ a. differ counted counted_before_here a && row_names whole conditions (64 * a) sizes variables i)

-- a fact's byte, from its two cells
unfoldable pub fact_byte : ℕ → ℕ → ℕ
fact_byte fact unlinked = cond (eqb fact 1) (cond (eqb unlinked 1) 1 2) 0

-- the bytes of a variable's values
unfoldable pub fact_bytes : List ℕ → List ℕ → ℕ → ℕ → List ℕ
fact_bytes facts unlinked v size = tabulate size (λ d. fact_byte (get_or facts (32 * v + d) 0) (get_or unlinked (32 * v + d) 0))

-- arrays with the marks after the last round, and the number of rounds
pub record Final (t : Task) (level : ℕ) (actions facts unlinked : List ℕ) (rounds : ℕ) : Type 0 where
  pub action : (a : ℕ) → a < action_count t → get_or actions a 0 ≡ bit (kept (marking t level).marks a)
  pub fact : (v d : ℕ) → v < variable_count t → d < size_of t v → fact_byte (get_or facts (32 * v + d) 0) (get_or unlinked (32 * v + d) 0) ≡ fact_mark t level (marking t level).marks v d
  pub count : rounds ≡ (marking t level).rounds
