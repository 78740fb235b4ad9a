-- Each array is filled with its part of the task that an accepted file holds, so together they hold that task;
-- nothing is written before the file is accepted.
use Rattle.std.proofs.Common.{◌≡◌, sym, ap, arith, refl}
use mathlib.Core.Path.{◌∙◌}
use Rattle.files.specs.Outcome.{Outcome}
use Rattle.files.specs.declared.arrays.Arrays.{Arrays}
use Rattle.files.specs.Bytes.{Octets}
use Rattle.files.specs.Dense.{held}
use Rattle.files.specs.Rows.{goal_stored}
use Rattle.files.specs.TaskFile.{check_task, task_of}
use Rattle.files.proofs.HeldLaws.{variables_in_few, actions_in_few, held_file, file_stored, task_read}
use Rattle.files.proofs.TaskChecked.{variable_count_lem, action_count_lem}
use Rattle.files.proofs.arrays.Arrays.read.Goals as goal

pub read_variables-requires : goal.read_variables-requires
read_variables-requires c =
    let f = c.args.file.now in
    let octets : Octets f = λ i. omega (arith, c.type_inv.file i) in
    let few = variables_in_few f octets (ap (λ (o : Outcome). o.number) (sym c.in_ok-check_task.ensures)) in omega arith

pub read_actions-requires : goal.read_actions-requires
read_actions-requires c =
    let f = c.args.file.now in
    let octets : Octets f = λ i. omega (arith, c.type_inv.file i) in
    let few = actions_in_few f octets (ap (λ (o : Outcome). o.number) (sym c.in_ok-check_task.ensures)) in
    let actions = ap (λ (d : Arrays). d.actions) (c.read_goal.ensures ∙ ap (goal_stored (task_of f).goal) c.read_variables.ensures) in
    omega (arith, few, actions, c.actions_in-self.ensures.is)

pub returns : goal.returns
returns c =
    let f = c.args.file.now in
    let octets : Octets f = λ i. omega (arith, c.type_inv.file i) in
    let passes : (check_task f).number ≡ 0 = ap (λ (o : Outcome). o.number) (sym c.in_ok-check_task.ensures) in
    let stored = file_stored f octets passes c.args.self.now _ _ _ _ _ c.variables_in-self.ensures.is c.actions_in-self.ensures.is c.read_variables.ensures c.read_goal.ensures c.read_actions.ensures in
    let held_is = ap held stored ∙ held_file f octets passes c.args.self.now (omega arith) (omega arith) (omega arith) (omega arith) (omega arith) (omega arith) in
    task_read f octets _ _ _ c.in_ok-check_task.ensures refl
    (ap (λ (d : Arrays). d.variables) stored ∙ variable_count_lem f)
    (ap (λ (d : Arrays). d.actions) stored ∙ action_count_lem f)
    held_is
