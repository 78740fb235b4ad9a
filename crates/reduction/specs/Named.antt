-- Named facts, settled variables and kept variables, for the kept actions A.
use Rattle.std.specs.Prelude.{ℕ, Bool, not, ◌&&◌, ◌||◌, eqb}
use Rattle.files.specs.Below.{any_below, all_below}
use Rattle.files.specs.Task.{Task, action_count, action_of, size_of, start_of}
use Rattle.plans.specs.State.{has_fact}
use Rattle.marking.specs.Links.{threatened}

-- named (01): a fact of the goal, or a condition of a kept action, covered or not
unfoldable pub named : Task → (ℕ → Bool) → ℕ → ℕ → Bool
named t A v value = has_fact t.goal v value || any_below (action_count t) (λ a. A a && has_fact (action_of t a).conditions v value)

unfoldable pub has_named : Task → (ℕ → Bool) → ℕ → Bool
has_named t A v = any_below (size_of t v) (named t A v)

-- settled (01): each named fact is the start fact, and no kept action sets another value
unfoldable pub settled : Task → (ℕ → Bool) → ℕ → Bool
settled t A v = all_below (size_of t v) (λ value. not (named t A v value) || eqb value (start_of t v)) && not (threatened t A v)

-- settled variables, and those without a named fact, are dropped
unfoldable pub kept_variable : Task → (ℕ → Bool) → ℕ → Bool
kept_variable t A v = has_named t A v && not (settled t A v)
