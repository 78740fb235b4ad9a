-- The records from a on, placed behind those that stand, make all the records, and so do their bytes.
use Rattle.std.proofs.Common.{◌≡◌, ◌+◌, ◌-◌}
use Rattle.files.specs.Below.{tabulate, tabulate_from}
use Rattle.files.specs.Bytes.{placed}
use Rattle.files.specs.Dense.{row_action}
use Rattle.files.specs.Lengths.{actions_needed}
use Rattle.files.specs.TaskFile.{action_bytes}
use Rattle.files.proofs.arrays.Arrays.put_actions.Given as goal

abbrev pub invariant-loop-a : goal.invariant-loop-a
invariant-loop-a l =
    let d = l.self in
    (placed l.buffer l.place (action_bytes (tabulate_from l.a (d.actions - l.a) (row_action d.variables d.costs d.conditions d.effects))) ≡ placed l.initial.buffer l.at (action_bytes (tabulate d.actions (row_action d.variables d.costs d.conditions d.effects))))
    × (l.place + actions_needed d.variables d.conditions d.effects l.a (d.actions - l.a) ≡ l.at + actions_needed d.variables d.conditions d.effects 0 d.actions)
