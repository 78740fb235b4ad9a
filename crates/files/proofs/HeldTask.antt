-- The task that arrays hold, by their cells.
use Prim.Native.Nat.{ℕ, ◌+◌, ◌*◌, ◌<◌}
use mathlib.Core.Path.{◌≡◌, refl, ap, ◌∙◌}
use mathlib.Core.Bool.{Bool, true, false, cond}
use mathlib.Core.List.{List, []}
use mathlib.Core.Option.{none, some}
use native.Mathlib.Omega.{arith}
use lib.Dec.{eqb}
use lib.ListN.{get_or}
use Rattle.files.specs.Task.{Variable, Action, variable, action, variable_count, action_count, action_of, size_of, start_of}
use Rattle.files.specs.Accepted.{valid_pairs}
use Rattle.files.specs.Dense.{row_pairs, row_variable, row_action, held}
use Rattle.files.specs.declared.arrays.Arrays.{Arrays}
use Rattle.files.proofs.RowValues.{row_pairs_value}
use Rattle.files.proofs.Tabulate.{tabulate_from_length, tabulate_entry}
use Rattle.files.proofs.Valid.{Valid, value_valid}

module _ (d : Arrays) where
  pub variables_held : variable_count (held d) ≡ d.variables
  unfolding held
  variables_held = tabulate_from_length (row_variable d.sizes d.starts) 0 d.variables

  pub actions_held : action_count (held d) ≡ d.actions
  unfolding held
  actions_held = tabulate_from_length (row_action d.variables d.costs d.conditions d.effects) 0 d.actions

  variable_held : (v : ℕ) → v < d.variables → get_or (held d).variables v (variable 0 0) ≡ row_variable d.sizes d.starts v
  unfolding held
  variable_held v h = tabulate_entry (row_variable d.sizes d.starts) d.variables v (variable 0 0) h

  pub size_held : (v : ℕ) → v < d.variables → size_of (held d) v ≡ get_or d.sizes v 0
  unfolding row_variable
  size_held v h = ap (λ (x : Variable). x.size) (variable_held v h)

  pub start_held : (v : ℕ) → v < d.variables → start_of (held d) v ≡ get_or d.starts v 0
  unfolding row_variable
  start_held v h = ap (λ (x : Variable). x.start) (variable_held v h)

  pub goal_held : (held d).goal ≡ row_pairs d.goal 0 0 d.variables
  unfolding held
  goal_held = refl

  pub held_action : (a : ℕ) → a < d.actions → action_of (held d) a ≡ row_action d.variables d.costs d.conditions d.effects a
  unfolding held
  held_action a h = tabulate_entry (row_action d.variables d.costs d.conditions d.effects) d.actions a (action 0 [] []) h

  pub cost_held : (a : ℕ) → a < d.actions → (action_of (held d) a).cost ≡ get_or d.costs a 0
  unfolding row_action
  cost_held a h = ap (λ (x : Action). x.cost) (held_action a h)

  pub conditions_held : (a : ℕ) → a < d.actions → (action_of (held d) a).conditions ≡ row_pairs d.conditions (64 * a) 0 d.variables
  unfolding row_action
  conditions_held a h = ap (λ (x : Action). x.conditions) (held_action a h)

  pub effects_held : (a : ℕ) → a < d.actions → (action_of (held d) a).effects ≡ row_pairs d.effects (64 * a) 0 d.variables
  unfolding row_action
  effects_held a h = ap (λ (x : Action). x.effects) (held_action a h)

  abbrev pub effect_at : ℕ → ℕ → ℕ
  effect_at a v = get_or d.effects (64 * a + v) 0

-- the cells of an accepted task's rows
module _ (d : Arrays) (ok : Valid (held d)) where
  pub cell_valid : (row : List ℕ) (base v : ℕ) → valid_pairs (held d) 0 (row_pairs row base 0 d.variables) ≡ true → v < d.variables → eqb (get_or row (base + v) 0) 255 ≡ false → get_or row (base + v) 0 < size_of (held d) v
  cell_valid row base v w h there =
      let x = get_or row (base + v) 0 in
      (value_valid (held d) 0 (row_pairs row base 0 d.variables) v x w
      (row_pairs_value row base 0 d.variables v (omega arith) (omega arith) ∙ ap (λ (b : Bool). cond b none (some x)) there)
      ).inside

  pub effect_valid : (a v : ℕ) → a < d.actions → v < d.variables → eqb (effect_at d a v) 255 ≡ false → effect_at d a v < size_of (held d) v
  effect_valid a v l h there = cell_valid d.effects (64 * a) v (rw (← effects_held d a l) (ok.action a).effects) h there

  pub condition_valid : (a v : ℕ) → a < d.actions → v < d.variables → eqb (get_or d.conditions (64 * a + v) 0) 255 ≡ false → get_or d.conditions (64 * a + v) 0 < size_of (held d) v
  condition_valid a v l h there = cell_valid d.conditions (64 * a) v (rw (← conditions_held d a l) (ok.action a).conditions) h there

  pub goal_valid : (v : ℕ) → v < d.variables → eqb (get_or d.goal (0 + v) 0) 255 ≡ false → get_or d.goal (0 + v) 0 < size_of (held d) v
  goal_valid v h there = cell_valid d.goal 0 v (rw (← goal_held d) ok.goal) h there
