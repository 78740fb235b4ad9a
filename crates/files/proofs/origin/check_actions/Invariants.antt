-- The check of the numbers from i on, the first at least `at_least`, is the check of all.
use Rattle.std.proofs.Common.{◌≡◌, ◌+◌, ◌*◌, ◌-◌}
use Rattle.files.specs.OriginFile.{action_origins_at}
use Rattle.files.proofs.origin.check_actions.Given as goal

abbrev pub invariant-loop-i : goal.invariant-loop-i
invariant-loop-i l = action_origins_at l.s l.at_least (l.at + 2 * l.i) (l.count - l.i) ≡ action_origins_at l.s 0 l.at l.count
