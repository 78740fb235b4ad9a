-- A task that tells a threat from an action that only restores the start value: what level 3 marks. And one in which a cheaper
-- action covers: what level 4 marks.
use Rattle.std.specs.Prelude.{Bool, ◌&&◌, [], ◌∷◌, eqb}
use Rattle.files.specs.Below.{same_list}
use Rattle.files.specs.Examples.{variables_e, goal_e, other_actions}
use Rattle.files.specs.Task.{Task, pair, variable, action}
use Rattle.marking.specs.Rounds.{marking}
use Rattle.marking.specs.Mark.{action_marks_of, fact_marks_of}

-- action 0 asks the start value of variable 0, action 1 restores it on the way to the goal, action 2 does nothing else
abbrev pub restoring : Task
restoring =
    record {
      variables = variable 2 0 ∷ variable 2 0 ∷ [];
      goal = pair 1 1 ∷ [];
      actions =
          action 1 (pair 0 0 ∷ []) (pair 1 1 ∷ [])
          ∷ action 1 [] (pair 0 0 ∷ pair 1 1 ∷ [])
          ∷ action 1 [] (pair 0 0 ∷ [])
          ∷ [];
    }

-- actions 0 and 1 are kept in 2 rounds, and the start value of variable 0 is linked
unfoldable pub restoring_is_no_threat : Bool
restoring_is_no_threat =
    same_list eqb (action_marks_of restoring 3) (1 ∷ 1 ∷ 0 ∷ [])
    && (same_list eqb (fact_marks_of restoring 3) (2 ∷ 0 ∷ 0 ∷ 1 ∷ []) && eqb (marking restoring 3).rounds 2)

-- E1 (02, U3): task E with action 1 of cost 1
abbrev pub task_e1 : Task
task_e1 =
    record {
      variables = variables_e;
      goal = goal_e;
      actions = action 2 (pair 0 1 ∷ []) (pair 2 1 ∷ []) ∷ action 1 [] (pair 2 1 ∷ []) ∷ other_actions;
    }

-- actions 0 and 1 are kept in 2 rounds: action 1 covers action 0, whose condition is not relevant
unfoldable pub cheaper_covers : Bool
cheaper_covers =
    same_list eqb (action_marks_of task_e1 4) (1 ∷ 1 ∷ 0 ∷ 0 ∷ 0 ∷ 0 ∷ 0 ∷ [])
    && (same_list eqb (fact_marks_of task_e1 4) (0 ∷ 0 ∷ 0 ∷ 0 ∷ 2 ∷ 0 ∷ 1 ∷ 0 ∷ []) && eqb (marking task_e1 4).rounds 2)
