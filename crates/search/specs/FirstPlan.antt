-- The plan read off the table: of all cheapest plans of fewest steps, the first by action numbers.
use Rattle.std.specs.Prelude.{ℕ, zero, suc, ◌+◌, ◌-◌, cond, List, [], ◌∷◌, get_or}
use Rattle.std.proofs.Math.Option
use Rattle.std.proofs.Math.Option.{Option, none, some}
use Rattle.files.specs.Task.{Task, action_count}
use Rattle.plans.specs.State.{all_hold}
use Rattle.distances.specs.States.{state_count, state_at}
use Rattle.distances.specs.Table.{start_number, Distance, same, through, next_state, distances}

-- the first action, of `count` from a on, by which the state has its distance
unfoldable pub first_action : Task → List Distance → ℕ → ℕ → ℕ → ℕ
first_action t row n a zero = a
first_action t row n a (suc count) =
    let more = first_action t row n (a + 1) count in
    cond (same (through t row n a) (get_or row n none)) a more

-- the steps from a state up to the goal, at most `limit` of them
unfoldable pub steps_from : Task → List Distance → ℕ → ℕ → List ℕ
steps_from t row n zero = []
steps_from t row n (suc limit) =
    let a = first_action t row n 0 (action_count t) in
    let more = a ∷ steps_from t row (next_state t a n) limit in
    cond (all_hold t.goal (state_at t.variables n)) [] more

abbrev pub where_reached : Distance → List ℕ → Option (List ℕ)
where_reached none plan = none
where_reached (some x) plan = some plan

-- none where no plan exists
unfoldable pub first_plan : Task → Option (List ℕ)
first_plan t =
    let row = distances t in
    let plan = steps_from t row (start_number t) (state_count t.variables - 1) in
    where_reached (get_or row (start_number t) none) plan

-- the plan by the task's own numbers, no steps where there is none
unfoldable pub found_plan : Task → List ℕ
found_plan t = Option.get_or (first_plan t) []
