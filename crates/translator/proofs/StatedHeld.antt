-- The arrays that are filled as a text is read hold the task that it states.
use Prim.Native.Nat.{ℕ, ◌%◌, ◌≤◌}
use mathlib.Core.Path.{◌≡◌, refl, sym, ap, ◌∙◌}
use mathlib.Core.Bool.{true, cond}
use mathlib.Core.List.{List, [], ◌++◌, map, map-map}
use native.Mathlib.Omega.{arith}
use lib.ListN.{length}
use Rattle.files.specs.Accepted.{accepted_task}
use Rattle.files.specs.Bytes.{placed}
use Rattle.files.specs.Dense.{held, arrays}
use Rattle.files.specs.Rows.{cleared, filled, filled_rows, stored_sizes, stored_starts, stored_costs, condition_lists, effect_lists}
use Rattle.files.specs.Task.{Task, variable_count, action_count}
use Rattle.files.proofs.HeldLaws.{held_task}
use Rattle.files.proofs.Valid.{Valid, task_valid}
use Rattle.translator.specs.Sas.{Sas}
use Rattle.translator.specs.Stated.{sizes_of, declared_in, supported_operator, supported, old_pairs, new_pairs, operator_action, started_variable, textual, in_order, ordered_action, ordered, stated}
use Rattle.translator.proofs.RowsInOrder.{filled_ordered, filled_rows_ordered}
use Rattle.translator.proofs.Supported.{operator_fits, Supported, text_supported, variables_stated, actions_stated, text_apart}

module _ (x : Sas) where
  sizes_stated : map (λ v. length v.declared.values % 256) x.variables ≡ stored_sizes (stated x).variables
  unfolding stated ordered textual stored_sizes started_variable
  sizes_stated = sym (map-map (λ v. v.size % 256) started_variable x.variables)

  starts_stated : map (λ v. v.start % 256) x.variables ≡ stored_starts (stated x).variables
  unfolding stated ordered textual stored_starts started_variable
  starts_stated = sym (map-map (λ v. v.start % 256) started_variable x.variables)

  costs_stated : map (λ o. cond x.metric o.cost 1) x.operators ≡ stored_costs (stated x).actions
  unfolding stated ordered textual stored_costs ordered_action operator_action
  costs_stated =
      sym (map-map (λ a. a.cost) (ordered_action (variable_count (textual x))) (map (operator_action x.metric) x.operators)
      ∙ map-map (λ a. a.cost) (operator_action x.metric) x.operators)

  -- the lists of the actions
  conditions_stated : map (λ o. in_order (variable_count (textual x)) (o.prevail ++ old_pairs o.effects)) x.operators ≡ condition_lists (stated x).actions
  unfolding stated ordered textual condition_lists ordered_action operator_action
  conditions_stated =
      sym (map-map (λ a. a.conditions) (ordered_action (variable_count (textual x))) (map (operator_action x.metric) x.operators)
      ∙ map-map (λ a. in_order (variable_count (textual x)) a.conditions) (operator_action x.metric) x.operators)

  effects_stated : map (λ o. in_order (variable_count (textual x)) (new_pairs o.effects)) x.operators ≡ effect_lists (stated x).actions
  unfolding stated ordered textual effect_lists ordered_action operator_action
  effects_stated =
      sym (map-map (λ a. a.effects) (ordered_action (variable_count (textual x))) (map (operator_action x.metric) x.operators)
      ∙ map-map (λ a. in_order (variable_count (textual x)) a.effects) (operator_action x.metric) x.operators)

  goal_stated : in_order (variable_count (textual x)) x.goal ≡ (stated x).goal
  unfolding stated ordered textual
  goal_stated = refl

pub stated_held : (x : Sas) (sizes starts goal costs conditions effects : List ℕ) → supported x ≡ true → accepted_task (stated x) ≡ true
    → 64 ≤ length sizes → 64 ≤ length starts → 64 ≤ length goal → 512 ≤ length costs → 32768 ≤ length conditions → 32768 ≤ length effects
    → held (arrays (length x.variables) (length x.operators)
    (placed sizes 0 (map (λ v. length v.declared.values % 256) x.variables))
    (placed starts 0 (map (λ v. v.start % 256) x.variables))
    (filled (cleared goal 0 64) 0 x.goal)
    (placed costs 0 (map (λ o. cond x.metric o.cost 1) x.operators))
    (filled_rows conditions 0 (map (λ o. o.prevail ++ old_pairs o.effects) x.operators))
    (filled_rows effects 0 (map (λ o. new_pairs o.effects) x.operators)))
    ≡ stated x
stated_held x sizes starts goal costs conditions effects h accepted ls lt lg lc lo le =
    let t : Task = stated x in
    let ok : Valid t = task_valid t accepted in
    let n : ℕ = variable_count (textual x) in
    let fits : Supported x = text_supported x h in
    let all : List ℕ = sizes_of (declared_in x) in
    let few : action_count t ≤ 512 = ok.actions_few in
    let size : placed sizes 0 (map (λ v. length v.declared.values % 256) x.variables) ≡ placed sizes 0 (stored_sizes t.variables) = ap (placed sizes 0) (sizes_stated x) in
    let start : placed starts 0 (map (λ v. v.start % 256) x.variables) ≡ placed starts 0 (stored_starts t.variables) = ap (placed starts 0) (starts_stated x) in
    let aim : filled (cleared goal 0 64) 0 x.goal ≡ filled (cleared goal 0 64) 0 t.goal =
    filled_ordered n (cleared goal 0 64) 0 x.goal (text_apart x [] x.goal fits.goal) ∙ ap (filled (cleared goal 0 64) 0) (goal_stated x) in
    let cost : placed costs 0 (map (λ o. cond x.metric o.cost 1) x.operators) ≡ placed costs 0 (stored_costs t.actions) = ap (placed costs 0) (costs_stated x) in
    let asked : filled_rows conditions 0 (map (λ o. o.prevail ++ old_pairs o.effects) x.operators) ≡ filled_rows conditions 0 (condition_lists t.actions) =
    filled_rows_ordered n (supported_operator all) (λ o. o.prevail ++ old_pairs o.effects) conditions 0 x.operators
    (λ o e. text_apart x [] (o.prevail ++ old_pairs o.effects) (operator_fits all o e).conditions) fits.operators
    ∙ ap (filled_rows conditions 0) (conditions_stated x) in
    let set : filled_rows effects 0 (map (λ o. new_pairs o.effects) x.operators) ≡ filled_rows effects 0 (effect_lists t.actions) =
    filled_rows_ordered n (supported_operator all) (λ o. new_pairs o.effects) effects 0 x.operators
    (λ o e. text_apart x [] (new_pairs o.effects) (operator_fits all o e).effects) fits.operators
    ∙ ap (filled_rows effects 0) (effects_stated x) in
    (λ i. held (arrays (variables_stated x i) (actions_stated x i) (size i) (start i) (aim i) (cost i) (asked i) (set i)))
    ∙ held_task t ok sizes starts goal costs conditions effects ls lt lg (omega arith) (omega arith) (omega arith)
