-- Names for the parts of what functions ask and ensure.
use Rattle.std.specs.Prelude.{ℕ, ◌+◌, ◌≤◌, ◌<◌, ◌≡◌, Bool, true, false, cond, List, eqb, length, get_or, set}
use Rattle.files.specs.Accepted.{accepted_task}
use Rattle.files.specs.Below.{bit, chosen_below}
use Rattle.files.specs.Clauses.{OriginWithin}
use Rattle.files.specs.Dense.{row_numbers}
use Rattle.files.specs.declared.arrays.Arrays.{Arrays}
use Rattle.files.specs.declared.arrays.OriginArrays.{OriginArrays}
use Rattle.files.specs.Task.{Task}
use Rattle.files.specs.TaskFile.{check_task, actions_in}

-- the marks of the actions of a task
pub record MarksWithin (marks : List ℕ) (actions : ℕ) : Type 0 where
  pub few : actions ≤ 512
  pub within : actions ≤ length marks

-- room for a number after `count` others
abbrev pub Pushable : {A : Type 0} → List A → ℕ → Type 0
Pushable numbers count = count < length numbers

-- a number comes after `count` ones where a test passes
pub record Pushed {A : Type 0} (before after : List A) (count : ℕ) (n : A) (test : Bool) (r : ℕ) : Type 0 where
  pub numbers : after ≡ cond test (set before count n) before
  pub counted : r ≡ count + bit test

-- the first numbers of an array are those below a bound that pass a test
pub record ChosenAre (numbers : List ℕ) (count bound : ℕ) (test : ℕ → Bool) : Type 0 where
  pub are : row_numbers numbers 0 count ≡ chosen_below bound test
  pub at_most : count ≤ bound

-- the first `count` numbers of an array, at most as many as a limit and each below it
pub record Numbered (numbers : List ℕ) (count limit : ℕ) : Type 0 where
  pub few : count ≤ limit
  pub known : (i : ℕ) → i < count → get_or numbers i 0 < limit

-- the numbers of the kept variables and of the kept actions
pub record KeptNumbered (numbers : List ℕ) (variable_count : ℕ) (originals : List ℕ) (action_count : ℕ) : Type 0 where
  pub variables : Numbered numbers variable_count 64
  pub actions : Numbered originals action_count 512

-- arrays of origins of the variables and the actions of a task, within its limits
pub record OriginFor (d : Arrays) (o : OriginArrays) : Type 0 where
  pub variables : o.variables ≡ d.variables
  pub actions : o.actions ≡ d.actions
  pub writable : OriginWithin o.variables o.actions o.sizes

-- the first `count` cells of the row at `to` are set, and the cells before them are as they were
pub record RowSet (before after : List ℕ) (to count : ℕ) (cell : ℕ → ℕ) : Type 0 where
  pub same : length after ≡ length before
  pub row : (i : ℕ) → i < count → get_or after (to + i) 0 ≡ cell i
  pub earlier : (i : ℕ) → i < to → get_or after i 0 ≡ get_or before i 0

-- a file that is accepted, and an action of its task
pub record HasAction (file : List ℕ) (action : ℕ) : Type 0 where
  pub accepted : (check_task file).number ≡ 0
  pub below : action < actions_in file

-- an accepted task, and a level that has no turns
pub record ReducedOnce (t : Task) (level : ℕ) : Type 0 where
  pub accepted : accepted_task t ≡ true
  pub other : eqb level 5 ≡ false
