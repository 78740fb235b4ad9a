-- Action a is next and stands where the reader is; storing the costs of the actions from there on gives those of all of them.
use Rattle.std.proofs.Common.{◌≡◌, ◌≤◌, ◌+◌, ◌*◌, ◌-◌}
use Rattle.files.specs.Bytes.{placed}
use Rattle.files.specs.Rows.{stored_costs}
use Rattle.files.specs.TaskFile.{actions_from}
use Rattle.files.proofs.decode.read_costs.Given as goal

abbrev pub invariant-loop-a : goal.invariant-loop-a
invariant-loop-a l =
    (l.reader.file.now ≡ l.file)
    × (l.reader.at + 65540 * (l.a-end - l.a) ≤ l.initial.reader.at + 65540 * l.a-end)
    × (placed l.costs l.a (stored_costs (actions_from l.file l.reader.at (l.a-end - l.a))) ≡ placed l.initial.costs 0 (stored_costs (actions_from l.file l.initial.reader.at l.a-end)))
