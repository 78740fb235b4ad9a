-- The calls in turn fill the arrays from the marks; what they hold is what the definitions say.
use mathlib.Core.Path.{refl}
use native.Mathlib.Omega.{arith}
use Rattle.files.specs.Dense.{held}
use Rattle.files.proofs.Valid.{task_valid}
use Rattle.reduction.proofs.FilledArrays.{chosen_numbered, ranges_small, task_filled, origin_filled}
use Rattle.reduction.proofs.Within.{limits_held}
use Rattle.reduction.proofs.arrays.fill.Goals as goal

pub named_facts-named-requires : goal.named_facts-named-requires
named_facts-named-requires c = limits_held c.args.task.now c.requires

pub changed-changed-requires : goal.changed-changed-requires
changed-changed-requires c = limits_held c.args.task.now c.requires

pub new_values-values-requires : goal.new_values-values-requires
new_values-values-requires c =
    let limits = limits_held c.args.task.now c.requires in
    limits.few_variables

pub kept_variables-v-requires : goal.kept_variables-v-requires
kept_variables-v-requires c =
    let limits = limits_held c.args.task.now c.requires in
    record { source = limits.few_variables; room = omega arith }

pub originals-n-requires : goal.originals-n-requires
originals-n-requires c =
    let limits = limits_held c.args.task.now c.requires in
    record { source = limits.few_actions; room = omega arith }

pub new_sizes-requires : goal.new_sizes-requires
new_sizes-requires c =
    let limits = limits_held c.args.task.now c.requires in
    record { source = chosen_numbered limits.few_variables c.kept_variables-v.ensures; room = omega arith }

pub map_row-requires : goal.map_row-requires
map_row-requires c =
    let limits = limits_held c.args.task.now c.requires in
    record { source = chosen_numbered limits.few_variables c.kept_variables-v.ensures; room = omega arith }

pub map_row-requires-2 : goal.map_row-requires-2
map_row-requires-2 c =
    let limits = limits_held c.args.task.now c.requires in
    record { source = chosen_numbered limits.few_variables c.kept_variables-v.ensures; room = omega arith }

pub map_variables-requires : goal.map_variables-requires
map_variables-requires c =
    let limits = limits_held c.args.task.now c.requires in
    record { source = chosen_numbered limits.few_variables c.kept_variables-v.ensures; room = omega arith }

pub value_rows-requires : goal.value_rows-requires
value_rows-requires c =
    let limits = limits_held c.args.task.now c.requires in
    record { source = chosen_numbered limits.few_variables c.kept_variables-v.ensures; room = omega arith }

pub map_actions-requires-clause-numbers : goal.map_actions-requires-clause-numbers
map_actions-requires-clause-numbers c =
    let limits = limits_held c.args.task.now c.requires in
    chosen_numbered limits.few_actions c.originals-n.ensures

pub map_rows-requires : goal.map_rows-requires
map_rows-requires c =
    let limits = limits_held c.args.task.now c.requires in
    record {
      source = record { variables = chosen_numbered limits.few_variables c.kept_variables-v.ensures; actions = chosen_numbered limits.few_actions c.originals-n.ensures };
      room = omega arith;
    }

pub map_rows-requires-2 : goal.map_rows-requires-2
map_rows-requires-2 c =
    let limits = limits_held c.args.task.now c.requires in
    record {
      source = record { variables = chosen_numbered limits.few_variables c.kept_variables-v.ensures; actions = chosen_numbered limits.few_actions c.originals-n.ensures };
      room = omega arith;
    }

pub returns : goal.returns
returns c =
    let task = c.args.task.now in
    let valid = task_valid (held task) c.requires in
    let limits = limits_held task c.requires in
    record {
      within =
          record {
            variables = refl;
            actions = refl;
            writable =
                record {
                  limits = record { few_variables = (chosen_numbered limits.few_variables c.kept_variables-v.ensures).few; few_actions = (chosen_numbered limits.few_actions c.originals-n.ensures).few };
                  few_values = ranges_small task valid c.args.kept.now _ _ c.new_values-values.result _ _ _ _ c.named_facts-named.ensures c.changed-changed.ensures c.new_values-values.ensures c.kept_variables-v.ensures c.originals-n.ensures _ c.map_variables.ensures;
                };
          };
      task = λ A bits.
          task_filled task valid c.args.kept.now _ _ c.new_values-values.result _ _ _ _ c.named_facts-named.ensures c.changed-changed.ensures c.new_values-values.ensures c.kept_variables-v.ensures c.originals-n.ensures A bits _ _ _ _ _ _
          c.new_sizes.ensures
          c.map_row.ensures
          c.map_row-2.ensures
          c.map_actions.ensures
          c.map_rows.ensures
          c.map_rows-2.ensures;
      origins = λ A bits.
          origin_filled task valid c.args.kept.now _ _ c.new_values-values.result _ _ _ _ c.named_facts-named.ensures c.changed-changed.ensures c.new_values-values.ensures c.kept_variables-v.ensures c.originals-n.ensures A bits _ _
          c.map_variables.ensures
          c.value_rows.ensures;
    }
