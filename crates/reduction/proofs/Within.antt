-- An accepted task is within the limits of the arrays that hold it.
use mathlib.Core.Path.{◌≡◌}
use mathlib.Core.Bool.{true}
use native.Mathlib.Omega.{arith}
use Rattle.files.specs.Accepted.{accepted_task}
use Rattle.files.specs.Clauses.{WithinLimits, OriginWithin}
use Rattle.files.specs.Dense.{held}
use Rattle.files.specs.declared.arrays.Arrays.{Arrays}
use Rattle.files.proofs.HeldTask.{variables_held, actions_held, size_held}
use Rattle.files.proofs.Valid.{task_valid}

pub limits_held : (d : Arrays) → accepted_task (held d) ≡ true → WithinLimits d.variables d.actions
limits_held d e =
    let ok = task_valid (held d) e in
    record { few_variables = omega (arith, ok.variables_few, variables_held d); few_actions = omega (arith, ok.actions_few, actions_held d) }

pub task_within : (d : Arrays) → accepted_task (held d) ≡ true → OriginWithin d.variables d.actions d.sizes
task_within d e =
    let ok = task_valid (held d) e in
    record { limits = limits_held d e; few_values = λ v l. omega (arith, ok.size_most v, size_held d v l) }
