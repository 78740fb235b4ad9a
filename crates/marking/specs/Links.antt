-- Threatened variables, linked facts and tracked variables, and what an action achieves.
use Rattle.std.specs.Prelude.{ℕ, Bool, not, cond, ◌&&◌, List, eqb, leb}
use Rattle.files.specs.Below.{any_below, any_of}
use Rattle.files.specs.Task.{Pair, Task, action_count, action_of, size_of, start_of}
use Rattle.marking.specs.Marks.{Marks, kept, relevant}

-- an effect sets the variable to a value other than the one given
unfoldable pub sets_other : List Pair → ℕ → ℕ → Bool
sets_other effects v value = any_of (λ e. eqb e.variable v && not (eqb e.value value)) effects

-- threatened (01): an action of A sets the variable to a value other than its start value
unfoldable pub threatened : Task → (ℕ → Bool) → ℕ → Bool
threatened t A v = any_below (action_count t) (λ a. A a && sets_other (action_of t a).effects v (start_of t v))

-- linked (01): the start fact of an unthreatened variable, at levels 3 and 4
unfoldable pub linked : Task → ℕ → (ℕ → Bool) → ℕ → ℕ → Bool
linked t level A v value = leb 3 level && (eqb value (start_of t v) && not (threatened t A v))

-- a fact that is in F and not linked
unfoldable pub unlinked : Task → ℕ → Marks → ℕ → ℕ → Bool
unlinked t level m v value = relevant m v value && not (linked t level (kept m) v value)

-- the variable has a relevant fact
unfoldable pub has_relevant : Task → Marks → ℕ → Bool
has_relevant t m v = any_below (size_of t v) (relevant m v)

-- tracked (01): the variable has a fact that is in F and not linked
unfoldable pub tracked : Task → ℕ → Marks → ℕ → Bool
tracked t level m v = any_below (size_of t v) (unlinked t level m v)

-- A gains the action: at level 1 it sets a variable that has a relevant fact, else it has an effect in F that is not linked
unfoldable pub gains_action : Task → ℕ → Marks → ℕ → Bool
gains_action t level m a =
    any_of
    (λ e. cond (eqb level 1) (has_relevant t m e.variable) (unlinked t level m e.variable e.value))
    (action_of t a).effects
