-- Turns on arrays: what the code asks and leaves.
use Rattle.std.specs.Prelude.{ℕ, ◌≡◌, Bool, true, cond, List}
use Rattle.files.specs.Accepted.{accepted_task}
use Rattle.files.specs.Dense.{held, held_origin}
use Rattle.files.specs.declared.arrays.Arrays.{Arrays}
use Rattle.files.specs.declared.arrays.OriginArrays.{OriginArrays}
use Rattle.files.specs.OriginFile.{Origin}
use Rattle.files.specs.Task.{Task}
use Rattle.reduction.specs.Clauses.{OriginFor}
use Rattle.reduction.specs.Composed.{OriginValues}
use Rattle.reduction.specs.Filled.{Marks}
use Rattle.reduction.specs.ReducedBy.{kept_at}
use Rattle.reduction.specs.Turns.{turn_task, turn_origin, composed, same_task, turning}

-- origins of the variables and actions of a task: each new value is inside its variable's size
pub record OriginInside (d : Arrays) (o : OriginArrays) : Type 0 where
  pub within : OriginFor d o
  pub values : OriginValues o d.sizes

-- an accepted task with the marks of level 4, and its origins
pub record TurnReady (d : Arrays) (o : OriginArrays) (kept : List ℕ) : Type 0 where
  pub accepted : accepted_task (held d) ≡ true
  pub marks : Marks kept d.actions (kept_at (held d) 4)
  pub origin : OriginInside d o

-- arrays after a turn on the task t, whose origins were o; and whether it left the task as it found it
pub record TurnLeaves (t : Task) (o : Origin) (d : Arrays) (after : OriginArrays) (same : Bool) : Type 0 where
  pub task : held d ≡ turn_task t
  pub unchanged : same ≡ same_task t (turn_task t)
  pub origin : held_origin after ≡ cond same o (composed o (turn_origin t))
  pub inside : OriginInside d after

-- an accepted task with the marks of level 4
pub record TurnsReady (d : Arrays) (kept : List ℕ) : Type 0 where
  pub accepted : accepted_task (held d) ≡ true
  pub marks : Marks kept d.actions (kept_at (held d) 4)

-- arrays after all turns on the task t, and how many turns there were
pub record TurnsLeave (t : Task) (d : Arrays) (o : OriginArrays) (turns : ℕ) : Type 0 where
  pub task : held d ≡ (turning t).task
  pub origin : held_origin o ≡ (turning t).origin
  pub count : turns ≡ (turning t).turns
  pub within : OriginFor d o
