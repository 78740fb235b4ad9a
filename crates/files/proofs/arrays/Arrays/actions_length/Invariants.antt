-- The bytes counted and those of the actions from a on are all the bytes.
use Rattle.std.proofs.Common.{◌≡◌, ◌+◌, ◌*◌, ◌-◌, ◌≤◌}
use Rattle.files.specs.Lengths.{actions_needed}
use Rattle.files.proofs.arrays.Arrays.actions_length.Given as goal

abbrev pub invariant-loop-a : goal.invariant-loop-a
invariant-loop-a l =
    (l.bytes + actions_needed l.self.variables l.self.conditions l.self.effects l.a (l.self.actions - l.a) ≡ actions_needed l.self.variables l.self.conditions l.self.effects 0 l.self.actions)
    × (l.bytes ≤ 524 * l.a)
