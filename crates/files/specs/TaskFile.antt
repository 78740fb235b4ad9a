-- Task files: the check in its order of refusals, the task that an accepted file holds, and the file of a task.
use Rattle.std.specs.Prelude.{ℕ, zero, suc, ◌+◌, ◌*◌, ◌/◌, List, [], ◌∷◌, ◌++◌, length, leb, ltb, eqb}
use Rattle.files.specs.Bytes.{u16_at, u32_at, u16_bytes, u32_bytes}
use Rattle.files.specs.Outcome.{done, guard, and_then, Outcome}
use Rattle.files.specs.Records.{body_length, record_end, records_end, head_at, sign_off_at, size_fits, record_bytes, signed}
use Rattle.files.specs.Task.{Pair, Variable, Action, Task, pair, variable, action, variable_count, action_count}

unfoldable pub header_at : List ℕ → Outcome
header_at s =
    and_then (head_at s 0 1)
    (guard (leb (u16_at s 4) 64) 4 4
    (guard (leb (u16_at s 6) 512) 4 6
    done))

-- the counts that a header states
unfoldable pub variables_in : List ℕ → ℕ
variables_in s = u16_at s 4

unfoldable pub actions_in : List ℕ → ℕ
actions_in s = u16_at s 6

unfoldable pub variable_at : List ℕ → ℕ → Outcome
variable_at s at =
    and_then (head_at s at 2)
    (guard (leb 1 (u16_at s (at + 4))) 4 (at + 4)
    (guard (leb (u16_at s (at + 4)) 32) 4 (at + 4)
    (guard (ltb (u16_at s (at + 6)) (u16_at s (at + 4))) 5 (at + 6)
    done)))

unfoldable pub variables_at : List ℕ → ℕ → ℕ → Outcome
variables_at s at zero = done
variables_at s at (suc count) = and_then (variable_at s at) (variables_at s (at + 8) count)

-- the record of variable v: the header and each variable before it have 8 bytes
unfoldable pub variable_place : ℕ → ℕ
variable_place v = 8 * v + 8

unfoldable pub size_at : List ℕ → ℕ → ℕ
size_at s v = u16_at s (variable_place v + 4)

-- the pair at `at`, whose variable is to be at least `at_least`
unfoldable pub pair_at : List ℕ → ℕ → ℕ → Outcome
pair_at s at_least at =
    guard (leb at_least (u16_at s at)) 6 at
    (guard (ltb (u16_at s at) (variables_in s)) 5 at
    (guard (ltb (u16_at s (at + 2)) (size_at s (u16_at s at))) 5 (at + 2)
    done))

-- pairs in a list strictly rise by variable
unfoldable pub pairs_at : List ℕ → ℕ → ℕ → ℕ → Outcome
pairs_at s at_least at zero = done
pairs_at s at_least at (suc count) = and_then (pair_at s at_least at) (pairs_at s (u16_at s at + 1) (at + 4) count)

unfoldable pub goal_at : List ℕ → ℕ → Outcome
goal_at s at = and_then (head_at s at 3) (pairs_at s 0 (at + 4) (body_length s at / 4))

-- the counts of an action record, and the length and the places that they give
unfoldable pub conditions_in : List ℕ → ℕ → ℕ
conditions_in s at = u16_at s (at + 8)

unfoldable pub effects_in : List ℕ → ℕ → ℕ
effects_in s at = u16_at s (at + 10)

unfoldable pub action_length : List ℕ → ℕ → ℕ
action_length s at = 8 + 4 * conditions_in s at + 4 * effects_in s at

unfoldable pub effects_place : List ℕ → ℕ → ℕ
effects_place s at = at + 12 + 4 * conditions_in s at

-- cost and both counts, then the length
unfoldable pub action_form_at : List ℕ → ℕ → Outcome
action_form_at s at =
    guard (leb (u32_at s (at + 4)) 1000000) 4 (at + 4)
    (guard (leb (conditions_in s at) 64) 4 (at + 8)
    (guard (leb (effects_in s at) 64) 4 (at + 10)
    (guard (eqb (body_length s at) (action_length s at)) 3 at
    done)))

-- then the pairs
unfoldable pub action_at : List ℕ → ℕ → Outcome
action_at s at =
    and_then (head_at s at 4)
    (and_then (action_form_at s at)
    (and_then (pairs_at s 0 (at + 12) (conditions_in s at))
    (pairs_at s 0 (effects_place s at) (effects_in s at))))

-- `count` actions from `at` on, and the sign-off behind them
unfoldable pub actions_at : List ℕ → ℕ → ℕ → Outcome
actions_at s at zero = sign_off_at s at
actions_at s at (suc count) = and_then (action_at s at) (actions_at s (record_end s at) count)

unfoldable pub goal_place : List ℕ → ℕ
goal_place s = variable_place (variables_in s)

unfoldable pub actions_place : List ℕ → ℕ
actions_place s = record_end s (goal_place s)

-- one header, its variables, one goal, its actions, one sign-off
unfoldable pub check_task : List ℕ → Outcome
check_task s =
    size_fits s
    (and_then (header_at s)
    (and_then (variables_at s 8 (variables_in s))
    (and_then (goal_at s (goal_place s))
    (actions_at s (actions_place s) (actions_in s)))))

unfoldable pub pairs_from : List ℕ → ℕ → ℕ → List Pair
pairs_from s at zero = []
pairs_from s at (suc count) = pair (u16_at s at) (u16_at s (at + 2)) ∷ pairs_from s (at + 4) count

unfoldable pub variables_from : List ℕ → ℕ → ℕ → List Variable
variables_from s at zero = []
variables_from s at (suc count) = variable (u16_at s (at + 4)) (u16_at s (at + 6)) ∷ variables_from s (at + 8) count

unfoldable pub action_from : List ℕ → ℕ → Action
action_from s at =
    action
    (u32_at s (at + 4))
    (pairs_from s (at + 12) (conditions_in s at))
    (pairs_from s (effects_place s at) (effects_in s at))

unfoldable pub actions_from : List ℕ → ℕ → ℕ → List Action
actions_from s at zero = []
actions_from s at (suc count) = action_from s at ∷ actions_from s (record_end s at) count

-- the task that an accepted file holds
unfoldable pub task_of : List ℕ → Task
task_of s =
    record {
      variables = variables_from s 8 (variables_in s);
      goal = pairs_from s (goal_place s + 4) (body_length s (goal_place s) / 4);
      actions = actions_from s (actions_place s) (actions_in s);
    }

-- where the record of action a stands
unfoldable pub action_place : List ℕ → ℕ → ℕ
action_place s a = records_end s (actions_place s) a

unfoldable pub pair_bytes : List Pair → List ℕ
pair_bytes [] = []
pair_bytes (p ∷ ps) = u16_bytes p.variable ++ u16_bytes p.value ++ pair_bytes ps

unfoldable pub variable_bytes : List Variable → List ℕ
variable_bytes [] = []
variable_bytes (v ∷ vs) = record_bytes 2 (u16_bytes v.size ++ u16_bytes v.start) ++ variable_bytes vs

unfoldable pub action_body : Action → List ℕ
action_body a =
    u32_bytes a.cost
    ++ u16_bytes (length a.conditions)
    ++ u16_bytes (length a.effects)
    ++ pair_bytes a.conditions
    ++ pair_bytes a.effects

unfoldable pub action_bytes : List Action → List ℕ
action_bytes [] = []
action_bytes (a ∷ rest) = record_bytes 4 (action_body a) ++ action_bytes rest

unfoldable pub task_records : Task → List ℕ
task_records t =
    record_bytes 1 (u16_bytes (variable_count t) ++ u16_bytes (action_count t))
    ++ variable_bytes t.variables
    ++ record_bytes 3 (pair_bytes t.goal)
    ++ action_bytes t.actions

-- the file of a task under a signer
unfoldable pub task_file : Task → ℕ → List ℕ
task_file t signer = signed signer (task_records t)
