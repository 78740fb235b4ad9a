-- What `shortest` prints of a task file.
use Rattle.std.specs.Prelude.{ℕ, cond, List, [], ◌∷◌, ◌++◌, replicate}
use Prim.Native.String.{String}
use Rattle.files.specs.Outcome.{is_done}
use Rattle.files.specs.Records.{signer_of}
use Rattle.files.specs.Task.{variable_count, action_count}
use Rattle.files.specs.TaskFile.{task_of}
use Rattle.search.specs.Planner.{Lent, lent_of, searched, plan_made, plan_answer, Planned}
use Rattle.distances.specs.Table.{entry}
use Rattle.digits.specs.Decimal.{ascii, decimal}

-- a line of two words with a number behind each
unfoldable pub line : String → ℕ → String → ℕ → List ℕ
line first m second n = ascii first ++ decimal m ++ ascii second ++ decimal n ++ ascii "\n"

-- a line a step, with its original number
unfoldable pub printed_steps : List ℕ → List ℕ
printed_steps [] = []
printed_steps (a ∷ steps) = ascii "step " ++ decimal a ++ ascii "\n" ++ printed_steps steps

-- it plans at this level
abbrev pub own_level : ℕ
own_level = 4

-- counts of variables and actions, those of the kept, the steps, cost and steps
unfoldable pub plan_lines : List ℕ → Planned → List ℕ
plan_lines task p =
    line "task " (variable_count (task_of task)) " " (action_count (task_of task))
    ++ line "kept " (variable_count (searched task own_level)) " " (action_count (searched task own_level))
    ++ printed_steps (plan_made task own_level)
    ++ line "cost " p.cost.0 " steps " p.steps.0

-- the program's buffers, of the largest lengths (`Ample`)
abbrev pub own_buffers : Lent
own_buffers = lent_of (replicate 512 0) (replicate 2048 0) (replicate 65536 0) (replicate 5520 0) (replicate 4096 (entry 0 0)) (replicate 8206 0)

-- planned under the file's signer; after a refusal just one line
unfoldable pub listing : List ℕ → List ℕ
listing task =
    let p = plan_answer task own_level (signer_of task) own_buffers in
    let lines = plan_lines task p in
    cond (is_done p.outcome) lines (line "refused " p.outcome.number " at " p.outcome.place)
