-- The records of a task as they stand in a file, each at its place.
use Prim.Native.Nat.{ℕ, ◌+◌, ◌*◌, ◌/◌, ◌≤◌}
use mathlib.Core.Path.{◌≡◌}
use mathlib.Core.List.{List, ◌++◌}
use native.Mathlib.Omega.{arith}
use lib.ListN.{length, length-append}
use Rattle.files.specs.Bytes.{u16_bytes}
use Rattle.files.specs.Records.{body_length, record_end, body_rule, body_fits, head_at, sign_off_at, size_fits, record_bytes}
use Rattle.files.specs.Task.{Task, variable_count, action_count}
use Rattle.files.specs.TaskFile.{header_at, variables_in, actions_in, variable_place, goal_at, goal_place, actions_place, check_task, pairs_from, variables_from, actions_from, task_of, pair_bytes, variable_bytes, action_bytes, task_records}
use Rattle.files.proofs.Done.{facts}
use Rattle.files.proofs.Lengths.{record_bytes_length, pair_bytes_length, variable_bytes_length, task_records_length}
use Rattle.files.proofs.Stands.{Stands, stands_left, stands_right, stands_join, stands_u16}
use Rattle.files.proofs.RecordStands.{Recorded, recorded}
use Rattle.files.proofs.Valid.{Valid}
use Rattle.files.proofs.Variables.{variables_read, variables_pass, States, states}
use Rattle.files.proofs.Pairs.{pairs_read, pairs_pass}
use Rattle.files.proofs.Actions.{actions_read, actions_pass}

module _ (t : Task) where
  abbrev pub header_body : List ℕ
  header_body = u16_bytes (variable_count t) ++ u16_bytes (action_count t)

  -- the records up to the variables, and up to the goal
  abbrev to_variables_here : List ℕ
  to_variables_here = record_bytes 1 header_body ++ variable_bytes t.variables

  abbrev to_goal_here : List ℕ
  to_goal_here = to_variables_here ++ record_bytes 3 (pair_bytes t.goal)

  abbrev pub goal_start : ℕ
  goal_start = 8 + 8 * variable_count t

  abbrev pub actions_start : ℕ
  actions_start = 12 + 8 * variable_count t + 4 * length t.goal

  to_variables_length : length to_variables_here ≡ goal_start
  unfolding record_bytes u16_bytes
  to_variables_length = omega (arith, variable_bytes_length t.variables)

  to_goal_length : length to_goal_here ≡ actions_start
  to_goal_length =
      omega (
        arith,
        length-append to_variables_here (record_bytes 3 (pair_bytes t.goal)),
        to_variables_length,
        record_bytes_length 3 (pair_bytes t.goal),
        pair_bytes_length t.goal,
      )

-- the records of a task, each at its place
pub record Laid (f : List ℕ) (t : Task) : Type 0 where
  pub header : Stands f 0 (record_bytes 1 (header_body t))
  pub variables : Stands f 8 (variable_bytes t.variables)
  pub goal : Stands f (goal_start t) (record_bytes 3 (pair_bytes t.goal))
  pub actions : Stands f (actions_start t) (action_bytes t.actions)

module _ {f : List ℕ} (t : Task) where
  pub records_laid : Stands f 0 (task_records t) → Laid f t
  unfolding task_records record_bytes u16_bytes
  records_laid s =
      let to_goal = stands_left (to_goal_here t) (action_bytes t.actions) s in
      let to_variables = stands_left (to_variables_here t) (record_bytes 3 (pair_bytes t.goal)) to_goal in
      record {
        header = stands_left (record_bytes 1 (header_body t)) (variable_bytes t.variables) to_variables;
        variables = stands_right (record_bytes 1 (header_body t)) (variable_bytes t.variables) (omega arith) to_variables;
        goal = stands_right (to_variables_here t) (record_bytes 3 (pair_bytes t.goal)) (omega (arith, to_variables_length t)) to_goal;
        actions = stands_right (to_goal_here t) (action_bytes t.actions) (omega (arith, to_goal_length t)) s;
      }

  pub laid_records : Laid f t → Stands f 0 (task_records t)
  unfolding task_records record_bytes u16_bytes
  laid_records l =
      stands_join (to_goal_here t) (action_bytes t.actions) (omega (arith, to_goal_length t))
      (stands_join (to_variables_here t) (record_bytes 3 (pair_bytes t.goal)) (omega (arith, to_variables_length t))
      (stands_join (record_bytes 1 (header_body t)) (variable_bytes t.variables) (omega arith) l.header l.variables)
      l.goal)
      l.actions

-- a valid task that is laid out is read
module _ (f : List ℕ) (t : Task) (l : Laid f t) (v : Valid t) where
  header_recorded : Recorded f 0 1 (header_body t)
  unfolding u16_bytes
  header_recorded = recorded 1 (header_body t) l.header (omega arith) (omega arith)

  variables_in_lem : variables_in f ≡ variable_count t
  unfolding variables_in
  variables_in_lem =
      stands_u16 (variable_count t) (stands_left (u16_bytes (variable_count t)) (u16_bytes (action_count t)) header_recorded.stands)
      (omega (arith, v.variables_few))

  actions_in_lem : actions_in f ≡ action_count t
  unfolding actions_in u16_bytes
  actions_in_lem =
      stands_u16 (action_count t) (stands_right (u16_bytes (variable_count t)) (u16_bytes (action_count t)) (omega arith) header_recorded.stands)
      (omega (arith, v.actions_few))

  variables_same : variables_from f 8 (variables_in f) ≡ t.variables
  variables_same = rw variables_in_lem (variables_read f t.variables 8 l.variables v.variables)

  stated : States f t
  stated = states f t variables_in_lem variables_same

  goal_place_lem : goal_place f ≡ goal_start t
  unfolding goal_place variable_place
  goal_place_lem = omega (arith, variables_in_lem)

  goal_recorded : Recorded f (goal_place f) 3 (pair_bytes t.goal)
  goal_recorded = rw goal_place_lem (recorded 3 (pair_bytes t.goal) l.goal (omega arith) (omega (arith, pair_bytes_length t.goal, v.goal_few)))

  goal_same : pairs_from f (goal_place f + 4) (body_length f (goal_place f) / 4) ≡ t.goal
  goal_same =
      let count : body_length f (goal_place f) / 4 ≡ length t.goal = omega (arith, goal_recorded.long, pair_bytes_length t.goal) in
      rw count (pairs_read f t v 0 t.goal (goal_place f + 4) goal_recorded.stands v.goal)

  actions_place_lem : actions_place f ≡ actions_start t
  unfolding actions_place record_end
  actions_place_lem = omega (arith, goal_recorded.long, pair_bytes_length t.goal, goal_place_lem)

  actions_same : actions_from f (actions_place f) (actions_in f) ≡ t.actions
  actions_same = rw (actions_place_lem, actions_in_lem) (actions_read f t stated v t.actions (actions_start t) l.actions v.actions)

  pub laid_task : task_of f ≡ t
  unfolding task_of
  laid_task = λ i. record { variables = variables_same i; goal = goal_same i; actions = actions_same i }

  pub laid_done : length f ≤ 65536 → (sign_off_at f (length (task_records t))).number ≡ 0 → (check_task f).number ≡ 0
  unfolding check_task size_fits header_at goal_at head_at body_fits body_rule record_end variables_in actions_in u16_bytes
  laid_done small e =
      simp facts (
        small,
        (
          omega (arith, header_recorded.long, header_recorded.named, header_recorded.stands.room, variables_in_lem, actions_in_lem, v.variables_few, v.actions_few),
          (
            rw variables_in_lem (variables_pass f t.variables 8 l.variables v.variables),
            (
              (
                omega (arith, goal_recorded.long, goal_recorded.named, goal_recorded.stands.room, pair_bytes_length t.goal, v.goal_few),
                pairs_pass f t stated 0 (goal_place f + 4) (body_length f (goal_place f) / 4) (rw goal_same v.goal),
              ),
              rw (actions_place_lem, actions_in_lem)
                  (actions_pass f t stated v t.actions (actions_start t) (length (task_records t)) l.actions v.actions (omega (arith, task_records_length t)) e),
            ),
          ),
        ),
      )
