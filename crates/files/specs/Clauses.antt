-- Names for the parts of what functions ask and ensure.
use Rattle.std.specs.Prelude.{ℕ, ◌+◌, ◌≤◌, ◌<◌, ◌≡◌, List, length, get_or}
use Rattle.std.specs.Borrow.{Bor}
use Rattle.files.specs.Outcome.{Outcome}
use Rattle.files.specs.declared.reader.Reader.{Reader}
use Rattle.files.specs.declared.records.Rule.{Rule}
use Rattle.files.specs.Bytes.{placed}
use Rattle.files.specs.Dense.{held, arrays, OriginSizes}
use Rattle.files.specs.declared.arrays.Arrays.{Arrays}
use Rattle.files.specs.OriginFile.{origin_of, origin_actions_place}
use Rattle.files.specs.Records.{body_rule, offset_limit, record_end}
use Rattle.files.specs.Task.{Task, action_count, action_of}
use Rattle.files.specs.TaskFile.{check_task, task_of, variables_in, actions_in}

-- a number is the one given, and below a bound
pub record IsBelow (r value bound : ℕ) : Type 0 where
  pub is : r ≡ value
  pub below : r < bound

-- a number is the one given, and at most a bound
pub record IsAtMost (r value bound : ℕ) : Type 0 where
  pub is : r ≡ value
  pub at_most : r ≤ bound

-- the rule of a kind, by which a length can be divided
pub record IsRule (r : Rule) (kind : ℕ) : Type 0 where
  pub is : r ≡ body_rule kind
  pub steps : 0 < r.step

-- a reader behind the record at an offset of its file
pub record Moved (s : Bor (List ℕ)) (at : ℕ) (r : Reader) : Type 0 where
  pub file : r.file ≡ s
  pub is : r.at ≡ record_end s.now at
  pub below : r.at < at + 65540

-- counts within the limits of a task
pub record WithinLimits (variables actions : ℕ) : Type 0 where
  pub few_variables : variables ≤ 64
  pub few_actions : actions ≤ 512

-- an action's number, and how many variables its rows have
pub record ActionWithin (action variables : ℕ) : Type 0 where
  pub known : action < 512
  pub few_variables : variables ≤ 64

-- the first `count` cells of the row at `base`
pub record RowWithin (rows : List ℕ) (base count : ℕ) : Type 0 where
  pub within : base + count ≤ length rows
  pub few : count ≤ 64

-- an array has room for what is read, and the bytes read end below a limit
pub record Readable (cells : ℕ) (array : List ℕ) (end limit : ℕ) : Type 0 where
  pub room : cells ≤ length array
  pub reach : end < limit

-- an action's number, and the place of its record in a file
pub record ActionAt (a at : ℕ) : Type 0 where
  pub known : a < 512
  pub reach : at < offset_limit

-- a file's outcome; arrays that hold its task, with its counts, where it is accepted, and are as they were where it is refused
pub record TaskRead (file : List ℕ) (before after : Arrays) (r : Outcome) : Type 0 where
  pub outcome : r ≡ check_task file
  pub task : r.number ≡ 0 → held after ≡ task_of file
  pub variables : r.number ≡ 0 → after.variables ≡ variables_in file
  pub actions : r.number ≡ 0 → after.actions ≡ actions_in file
  pub limits : r.number ≡ 0 → WithinLimits after.variables after.actions
  pub untouched : (r.number ≡ 0 → ⊥) → after ≡ before

-- an array with the cost of each action
abbrev pub CostsOf : Task → List ℕ → Type 0
CostsOf t costs = (a : ℕ) → a < action_count t → get_or costs a 0 ≡ (action_of t a).cost

-- what is written is well given, and the buffer is long enough for its end
pub record Writable (given : Type 0) (end : ℕ) (buffer : List ℕ) : Type 0 where
  pub source : given
  pub room : end ≤ length buffer

-- bytes are placed in a buffer, and the number returned is where they end
pub record Written (before after : List ℕ) (at : ℕ) (bytes : List ℕ) (r end : ℕ) : Type 0 where
  pub written : after ≡ placed before at bytes
  pub ends : r ≡ end

-- the place of a variable origin, which has few values
pub record OriginAt (i : ℕ) (sizes : List ℕ) : Type 0 where
  pub known : i < 64
  pub few_values : get_or sizes i 0 ≤ 32

-- origins within the limits of a task
pub record OriginWithin (variables actions : ℕ) (sizes : List ℕ) : Type 0 where
  pub limits : WithinLimits variables actions
  pub few_values : OriginSizes sizes variables

-- an action that an origin file names, whose record of kind 7 stands at a place
pub record NumberAt (origin : List ℕ) (place action : ℕ) : Type 0 where
  pub place_is : place ≡ origin_actions_place origin
  pub place_few : place < 8589934592
  pub inside : action < length (origin_of origin).actions
