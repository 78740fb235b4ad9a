-- Level 5: a turn, the turns up to the first that leaves the task as it found it, and their count.
use Rattle.std.specs.Prelude.{ℕ, zero, suc, ◌+◌, Bool, cond, ◌&&◌, List, [], map, eqb, get_or}
use Rattle.files.specs.Below.{tabulate, same_list}
use Rattle.files.specs.Task.{Pair, Variable, Action, Task, variable_count, action_count, action_of, size_of, fact_count}
use Rattle.files.specs.OriginFile.{VariableOrigin, Origin}
use Rattle.reduction.specs.ReducedBy.{kept_actions, reduced_by, origin_by, kept_at}
use Rattle.reduction.specs.Reach.{reached}

-- the task with the actions of R alone: variables, values and goal stay
unfoldable pub struck_to : Task → (ℕ → Bool) → Task
struck_to t R = record { variables = t.variables; goal = t.goal; actions = map (action_of t) (kept_actions t R) }

-- what a turn reduces the task to, before it strikes: level 4, then reduction
unfoldable pub turn_reduced : Task → Task
turn_reduced t = reduced_by t (kept_at t 4)

-- a turn (02): level 4, reduction, then striking actions not reached
unfoldable pub turn_task : Task → Task
turn_task t = let r = turn_reduced t in struck_to r (reached r)

-- the original number of each action in a list
unfoldable pub originals : Origin → List ℕ → List ℕ
originals origin actions = map (λ n. get_or origin.actions n 0) actions

-- where the task that a turn leaves has its variables, values and actions from
unfoldable pub turn_origin : Task → Origin
turn_origin t =
    let r = turn_reduced t in
    let origin = origin_by t (kept_at t 4) in
    record { variables = origin.variables; actions = originals origin (kept_actions r (reached r)) }

-- the variable origin of a number
abbrev pub origin_at : Origin → ℕ → VariableOrigin
origin_at origin v = get_or origin.variables v (record { variable = 0; values = [] })

-- of a variable origin's values, what a second one makes of them
unfoldable pub composed_variable : Origin → VariableOrigin → VariableOrigin
composed_variable first second =
    let before = origin_at first second.variable in
    record { variable = before.variable; values = map (λ value. get_or second.values value 0) before.values }

-- origins composed: `first` leads from a task to one before it, `second` from a later task to that task
unfoldable pub composed : Origin → Origin → Origin
composed first second =
    record {
      variables = map (composed_variable first) second.variables;
      actions = originals first second.actions;
    }

-- every variable, value and action is its own
unfoldable pub own_origin : Task → Origin
own_origin t =
    record {
      variables = tabulate (variable_count t) (λ v. record { variable = v; values = tabulate (size_of t v) (λ value. value) });
      actions = tabulate (action_count t) (λ a. a);
    }

-- two tasks are the same, numbers included
unfoldable pub same_pair : Pair → Pair → Bool
same_pair p q = eqb p.variable q.variable && eqb p.value q.value

unfoldable pub same_variable : Variable → Variable → Bool
same_variable v w = eqb v.size w.size && eqb v.start w.start

unfoldable pub same_action : Action → Action → Bool
same_action a b =
    eqb a.cost b.cost
    && (same_list same_pair a.conditions b.conditions && same_list same_pair a.effects b.effects)

unfoldable pub same_task : Task → Task → Bool
same_task t u =
    same_list same_variable t.variables u.variables
    && (same_list same_pair t.goal u.goal && same_list same_action t.actions u.actions)

-- the task that turns leave, its origins in the first task, and the number of turns that led to it
pub record Turning : Type 0 where
  pub task : Task
  pub origin : Origin
  pub turns : ℕ

-- the first turn that leaves the task as it found it ends it and is counted; at most `limit` turns more
unfoldable pub turns_from : ℕ → Task → Origin → ℕ → Turning
turns_from zero t origin turns = record { task = t; origin = origin; turns = turns }
turns_from (suc limit) t origin turns =
    let next = turn_task t in
    let more = turns_from limit next (composed origin (turn_origin t)) (turns + 1) in
    cond (same_task t next) (record { task = t; origin = origin; turns = turns + 1 }) more

-- turns are at most actions plus facts plus 1
unfoldable pub turning : Task → Turning
turning t = turns_from (action_count t + fact_count t + 1) t (own_origin t) 0
