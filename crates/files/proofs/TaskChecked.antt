-- A file whose check as a task is done: the task's records stand in it, and the task is accepted.
use Prim.Native.Nat.{ℕ, ◌+◌, ◌*◌, ◌/◌, ◌≤◌}
use mathlib.Core.Path.{◌≡◌, refl, sym}
use mathlib.Core.Bool.{true}
use mathlib.Core.List.{List}
use native.Mathlib.Omega.{arith}
use lib.ListN.{length}
use Rattle.files.specs.Bytes.{Octets, u16_bytes}
use Rattle.files.specs.Records.{body_length, kind_at, record_end, records_end, body_rule, body_fits, head_at, sign_off_at, size_fits, signer_of, record_bytes}
use Rattle.files.specs.Task.{variable_count, action_count}
use Rattle.files.specs.TaskFile.{header_at, variables_in, actions_in, variables_at, variable_place, pairs_at, goal_at, actions_at, goal_place, actions_place, check_task, task_of, pair_bytes, task_records, task_file}
use Rattle.files.specs.Accepted.{valid_signer, accepted_task}
use Rattle.files.proofs.Done.{facts}
use Rattle.files.proofs.Lengths.{pair_bytes_length, signed_length, task_records_length}
use Rattle.files.proofs.Stands.{Stands, stands_at, stands_join, u16_stands}
use Rattle.files.proofs.RecordStands.{record_stands}
use Rattle.files.proofs.SignOff.{signed_off_lem, file_signed}
use Rattle.files.proofs.Variables.{variables_length, variables_stand, variables_checked, States, states}
use Rattle.files.proofs.Pairs.{pairs_length, pairs_stand, pairs_checked}
use Rattle.files.proofs.Actions.{actions_length, actions_stand, actions_end, actions_signed, actions_checked}
use Rattle.files.proofs.TaskLaid.{Laid, laid_records, header_body, goal_start, actions_start}

module _ (f : List ℕ) where
  pub variable_count_lem : variable_count (task_of f) ≡ variables_in f
  unfolding task_of
  variable_count_lem = variables_length f 8 (variables_in f)

  pub action_count_lem : action_count (task_of f) ≡ actions_in f
  unfolding task_of
  action_count_lem = actions_length f (actions_place f) (actions_in f)

  pub goal_count : length (task_of f).goal ≡ body_length f (goal_place f) / 4
  unfolding task_of
  goal_count = pairs_length f (goal_place f + 4) (body_length f (goal_place f) / 4)

  -- the file states the variables of the task that it holds
  pub stated : States f (task_of f)
  unfolding task_of
  stated = states f (task_of f) (sym variable_count_lem) refl

-- what the check has found, record by record
record Checked (f : List ℕ) : Type 0 where
  small : length f ≤ 65536
  header_long : body_length f 0 ≡ 4
  header_kind : kind_at f 0 ≡ 1
  header_room : 8 ≤ length f
  variables_few : variables_in f ≤ 64
  actions_few : actions_in f ≤ 512
  variables : (variables_at f 8 (variables_in f)).number ≡ 0
  goal_long : body_length f (goal_place f) ≡ 4 * (body_length f (goal_place f) / 4)
  goal_few : body_length f (goal_place f) ≤ 256
  goal_kind : kind_at f (goal_place f) ≡ 3
  goal_room_lem : record_end f (goal_place f) ≤ length f
  goal : (pairs_at f 0 (goal_place f + 4) (body_length f (goal_place f) / 4)).number ≡ 0
  actions : (actions_at f (actions_place f) (actions_in f)).number ≡ 0

check_found : (f : List ℕ) → (check_task f).number ≡ 0 → Checked f
unfolding check_task size_fits header_at goal_at head_at body_fits body_rule record_end variables_in actions_in
check_found f e =
    let found = simp facts at e in
    record {
      small = omega arith;
      header_long = omega arith;
      header_kind = omega arith;
      header_room = omega arith;
      variables_few = omega arith;
      actions_few = omega arith;
      variables = found.1.1.0;
      goal_long = omega arith;
      goal_few = omega arith;
      goal_kind = omega arith;
      goal_room_lem = omega arith;
      goal = found.1.1.1.0.1;
      actions = found.1.1.1.1;
    }

module _ (f : List ℕ) (o : Octets f) (e : (check_task f).number ≡ 0) where
  checked : Checked f
  checked = check_found f e

  header_stands : Stands f 0 (record_bytes 1 (header_body (task_of f)))
  unfolding variables_in actions_in u16_bytes
  header_stands =
      let c = checked in
      let first : Stands f 4 (u16_bytes (variable_count (task_of f))) =
      rw (variable_count_lem f) (u16_stands f o 4 (omega (arith, c.header_room))) in
      let second : Stands f 6 (u16_bytes (action_count (task_of f))) =
      rw (action_count_lem f) (u16_stands f o 6 (omega (arith, c.header_room))) in
      record_stands o
      (record {
        long = omega (arith, c.header_long);
        named = c.header_kind;
        stands = stands_join (u16_bytes (variable_count (task_of f))) (u16_bytes (action_count (task_of f))) (omega arith) first second;
      })

  goal_place_lem : goal_place f ≡ goal_start (task_of f)
  unfolding goal_place variable_place
  goal_place_lem = omega (arith, variable_count_lem f)

  actions_place_lem : actions_place f ≡ actions_start (task_of f)
  unfolding actions_place record_end
  actions_place_lem = omega (arith, goal_place_lem, goal_count f, checked.goal_long)

  goal_stands : Stands f (goal_place f) (record_bytes 3 (pair_bytes (task_of f).goal))
  unfolding task_of record_end
  goal_stands =
      let c = checked in
      record_stands o
      (record {
        long = omega (arith, c.goal_long, pair_bytes_length (task_of f).goal, goal_count f);
        named = c.goal_kind;
        stands = pairs_stand f o (goal_place f + 4) (body_length f (goal_place f) / 4) (omega (arith, c.goal_long, c.goal_room_lem));
      })

  checked_laid : Laid f (task_of f)
  unfolding task_of actions_place
  checked_laid =
      let c = checked in
      record {
        header = header_stands;
        variables = variables_stand f o 8 (variables_in f) c.header_room c.variables;
        goal = stands_at goal_place_lem goal_stands;
        actions = stands_at actions_place_lem (actions_stand f o (actions_place f) (actions_in f) (omega (arith, c.goal_room_lem)) c.actions);
      }

  records_end_lem : length (task_records (task_of f)) ≡ records_end f (actions_place f) (actions_in f)
  unfolding task_of
  records_end_lem =
      omega (
        arith,
        task_records_length (task_of f),
        actions_place_lem,
        actions_end f o (actions_place f) (actions_in f) checked.actions,
      )

  signs_off : (sign_off_at f (records_end f (actions_place f) (actions_in f))).number ≡ 0
  signs_off = actions_signed f (actions_place f) (actions_in f) checked.actions

  -- the file is the one that is written for the task
  pub task_written : f ≡ task_file (task_of f) (signer_of f)
  unfolding task_file
  task_written = file_signed f (task_records (task_of f)) (records_end f (actions_place f) (actions_in f)) o (laid_records (task_of f) checked_laid) records_end_lem signs_off

  pub task_signer_valid : valid_signer (signer_of f) ≡ true
  task_signer_valid = (signed_off_lem f (records_end f (actions_place f) (actions_in f)) o signs_off).valid

  file_small : length (task_file (task_of f) 1) ≤ 65536
  unfolding task_file
  file_small =
      omega (
        arith,
        signed_length 1 (task_records (task_of f)),
        records_end_lem,
        (signed_off_lem f (records_end f (actions_place f) (actions_in f)) o signs_off).end,
        checked.small,
      )

  pub task_accepted : accepted_task (task_of f) ≡ true
  unfolding accepted_task task_of
  task_accepted =
      let c = checked in
      simp facts (
        omega (arith, variable_count_lem f, c.variables_few),
        (
          omega (arith, action_count_lem f, c.actions_few),
          (
            variables_checked f 8 (variables_in f) c.variables,
            (
              omega (arith, goal_count f, c.goal_few),
              (
                pairs_checked f (task_of f) (stated f) 0 (goal_place f + 4) (body_length f (goal_place f) / 4) c.goal,
                (
                  actions_checked f (task_of f) (stated f) (actions_place f) (actions_in f) c.actions,
                  file_small,
                ),
              ),
            ),
          ),
        ),
      )
