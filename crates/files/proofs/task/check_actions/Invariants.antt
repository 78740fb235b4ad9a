-- What is left to check from where the reader is gives the outcome of all.
use Rattle.std.proofs.Common.{◌≡◌, ◌+◌, ◌-◌, ◌*◌, ◌≤◌}
use Rattle.files.specs.TaskFile.{actions_at}
use Rattle.files.proofs.task.check_actions.Given as goal

abbrev pub invariant-loop : goal.invariant-loop
invariant-loop l =
    (l.reader.file.now ≡ l.s)
    × (actions_at l.s l.reader.at (l.count - l.counter) ≡ actions_at l.s l.at l.count)
    × (l.reader.at + 65540 * (l.count - l.counter) ≤ l.at + 65540 * l.count)
