-- The reduced task at a level, its origins, its turn count, and lists of its actions by original numbers.
use Rattle.std.specs.Prelude.{ℕ, cond, List, map, eqb, get_or}
use Rattle.files.specs.Task.{Task}
use Rattle.files.specs.OriginFile.{Origin}
use Rattle.reduction.specs.ReducedBy.{reduced_by, origin_by, kept_at}
use Rattle.reduction.specs.Turns.{turning}

-- at level 5 marks and round count are the first turn's, at level 4
unfoldable pub mark_level : ℕ → ℕ
mark_level level = cond (eqb level 5) 4 level

-- the reduced task at a level (01); at level 5 what the turns leave (02)
unfoldable pub reduced_task : Task → ℕ → Task
reduced_task t level =
    let turned = (turning t).task in
    let reduced = reduced_by t (kept_at t level) in
    cond (eqb level 5) turned reduced

unfoldable pub origins_at : Task → ℕ → Origin
origins_at t level =
    let turned = (turning t).origin in
    let reduced = origin_by t (kept_at t level) in
    cond (eqb level 5) turned reduced

-- the turn count, 0 at other levels
unfoldable pub turn_count : Task → ℕ → ℕ
turn_count t level = let turned = (turning t).turns in cond (eqb level 5) turned 0

-- a list of the reduced task's actions by original numbers (01)
unfoldable pub by_original : Task → ℕ → List ℕ → List ℕ
by_original t level plan = map (λ n. get_or (origins_at t level).actions n 0) plan
