-- Marks: the kept actions A and the relevant facts F of a task.
use Rattle.std.specs.Prelude.{ℕ, Bool, false, cond, ◌&&◌, List, [], eqb, get_or}
use Rattle.std.specs.Bool.{beq}
use Rattle.files.specs.Below.{tabulate, same_list}
use Rattle.files.specs.Task.{Pair, Task, variable_count, action_count, size_of, mentions}
use Rattle.plans.specs.State.{has_fact}

-- a mark for each action, and a row of marks for each variable, one for each value
pub record Marks : Type 0 where
  pub actions : List Bool
  pub facts : List (List Bool)

abbrev pub kept : Marks → ℕ → Bool
kept m a = get_or m.actions a false

abbrev pub relevant : Marks → ℕ → ℕ → Bool
relevant m v value = get_or (get_or m.facts v []) value false

-- conditions or a goal name a fact: at level 1 their variables count whole
unfoldable pub names : ℕ → List Pair → ℕ → ℕ → Bool
names level conditions v value = cond (eqb level 1) (mentions conditions v) (has_fact conditions v value)

abbrev pub action_marks : Task → (ℕ → Bool) → List Bool
action_marks t f = tabulate (action_count t) f

abbrev pub fact_marks : Task → (ℕ → ℕ → Bool) → List (List Bool)
fact_marks t f = tabulate (variable_count t) (λ v. tabulate (size_of t v) (f v))

-- the start: the goal's facts, and no action
unfoldable pub first_marks : Task → ℕ → Marks
first_marks t level =
    record {
      actions = action_marks t (λ a. false);
      facts = fact_marks t (names level t.goal);
    }

unfoldable pub same_marks : Marks → Marks → Bool
same_marks m n = same_list beq m.actions n.actions && same_list (same_list beq) m.facts n.facts
