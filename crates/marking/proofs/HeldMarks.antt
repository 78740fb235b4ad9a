-- The marks that arrays hold, and the threats that their cells make.
use Prim.Native.Nat.{ℕ, ◌+◌, ◌*◌, ◌<◌}
use mathlib.Core.Path.{◌≡◌, refl, sym, ap, ap₂, ◌∙◌}
use mathlib.Core.Bool.{Bool, true, ◌&&◌}
use mathlib.Core.List.{List}
use native.Mathlib.Omega.{arith}
use lib.ListN.{get_or}
use Rattle.files.specs.Below.{any_below}
use Rattle.files.specs.Task.{Pair, Task, action_of, size_of, start_of}
use Rattle.files.specs.Dense.{held}
use Rattle.files.specs.declared.arrays.Arrays.{Arrays}
use Rattle.files.proofs.HeldTask.{variables_held, actions_held, start_held, effects_held, effect_at}
use Rattle.files.proofs.Truth.{any_same}
use Rattle.files.specs.Accepted.{accepted_task}
use Rattle.files.specs.Clauses.{WithinLimits}
use Rattle.files.proofs.Valid.{task_valid}
use Rattle.marking.specs.Marks.{Marks, kept, relevant, action_marks, fact_marks}
use Rattle.marking.specs.Links.{sets_other, threatened}
use Rattle.marking.specs.Dense.{is_marked, other_than}
use Rattle.marking.proofs.MarkTables.{marks_of, marks_of_kept, marks_of_relevant, marks_of_inside, Shaped, marks_of_shaped}
use Rattle.marking.proofs.RowTests.{row_other}

-- the marks that arrays hold: a byte per action, 32 per variable
unfoldable pub held_marks : Task → List ℕ → List ℕ → Marks
held_marks t kept facts =
    record {
      actions = action_marks t (is_marked kept);
      facts = fact_marks t (λ v value. is_marked facts (32 * v + value));
    }

module _ (d : Arrays) where
  -- a variable is threatened, by the cells of the effects
  pub threatened_held : (A : ℕ → Bool) (v : ℕ) → v < d.variables → threatened (held d) A v ≡ any_below d.actions (λ a. A a && other_than (effect_at d a v) (get_or d.starts v 0))
  unfolding threatened
  threatened_held A v h =
      ap (λ (n : ℕ). any_below n (λ a. A a && sets_other (action_of (held d) a).effects v (start_of (held d) v))) (actions_held d)
      ∙ any_same d.actions (λ a. A a && sets_other (action_of (held d) a).effects v (start_of (held d) v)) (λ a. A a && other_than (get_or d.effects (64 * a + v) 0) (get_or d.starts v 0))
      (λ a l.
      ap (λ (b : Bool). A a && b)
      (ap₂ (λ (ps : List Pair) (x : ℕ). sets_other ps v x) (effects_held d a l) (start_held d v h)
      ∙ row_other d.effects (64 * a) d.variables v h (get_or d.starts v 0)))

  -- marks of the task in arrays
  module _ (actions facts : List ℕ) where
    abbrev pub fact_at : ℕ → ℕ → Bool
    fact_at v e = is_marked facts (32 * v + e)

    pub marks_held : held_marks (held d) actions facts ≡ marks_of (held d) (is_marked actions) fact_at
    unfolding held_marks marks_of
    marks_held = refl

    pub kept_held : (a : ℕ) → a < d.actions → kept (held_marks (held d) actions facts) a ≡ is_marked actions a
    kept_held a h = ap (λ (m : Marks). kept m a) marks_held ∙ marks_of_kept (held d) (is_marked actions) fact_at a (omega (arith, actions_held d))

    pub relevant_held : (v e : ℕ) → v < d.variables → e < size_of (held d) v → relevant (held_marks (held d) actions facts) v e ≡ fact_at v e
    relevant_held v e h k = ap (λ (m : Marks). relevant m v e) marks_held ∙ marks_of_relevant (held d) (is_marked actions) fact_at v e (omega (arith, variables_held d)) k

    pub relevant_inside : (v e : ℕ) → relevant (held_marks (held d) actions facts) v e ≡ true → (v < d.variables) × (e < size_of (held d) v)
    relevant_inside v e r =
        let place = marks_of_inside (held d) (is_marked actions) fact_at v e (sym (ap (λ (m : Marks). relevant m v e) marks_held) ∙ r) in
        (omega (arith, place.0, variables_held d), place.1)

    pub held_shaped : Shaped (held d) (held_marks (held d) actions facts)
    held_shaped = rw marks_held (marks_of_shaped (held d) (is_marked actions) fact_at)

-- an accepted task is within limits, and so are the arrays that hold it
pub held_limits : (d : Arrays) → accepted_task (held d) ≡ true → WithinLimits d.variables d.actions
held_limits d e =
    let valid = task_valid (held d) e in
    record { few_variables = omega (arith, valid.variables_few, variables_held d); few_actions = omega (arith, valid.actions_few, actions_held d) }
