-- Action a is next and stands where the reader is; storing the actions from there on gives all of them stored.
use Rattle.std.proofs.Common.{◌≡◌, ◌≤◌, ◌+◌, ◌*◌, ◌-◌}
use Rattle.files.specs.Rows.{actions_stored}
use Rattle.files.specs.TaskFile.{actions_from}
use Rattle.files.proofs.arrays.Arrays.read_actions.Given as goal

abbrev pub invariant-loop-a : goal.invariant-loop-a
invariant-loop-a l =
    (l.reader.file.now ≡ l.s)
    × (l.reader.at + 65540 * (l.a-end - l.a) ≤ l.initial.reader.at + 65540 * l.a-end)
    × (actions_stored l.a (actions_from l.s l.reader.at (l.a-end - l.a)) l.self ≡ actions_stored 0 (actions_from l.s l.initial.reader.at l.a-end) l.initial.self)
