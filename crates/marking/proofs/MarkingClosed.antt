-- The marking of a task is closed.
use Prim.Native.Nat.{ℕ}
use Rattle.files.specs.Task.{Task}
use Rattle.files.proofs.Valid.{Valid}
use Rattle.marking.specs.Marks.{kept, relevant}
use Rattle.marking.specs.Links.{linked}
use Rattle.marking.specs.Rounds.{marking}
use Rattle.marking.proofs.Closed.{Closed}
use Rattle.marking.proofs.FixedPoint.{fixed_closed}
use Rattle.marking.proofs.RoundBound.{marking_fixed}

pub marking_closed : (t : Task) → Valid t → (level : ℕ) → Closed t (kept (marking t level).marks) (relevant (marking t level).marks) (linked t level (kept (marking t level).marks))
marking_closed t w level = fixed_closed t w level (marking t level).marks (marking_fixed t level w)
