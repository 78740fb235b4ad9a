-- The bytes counted and those of the origins from i on are all the bytes.
use Rattle.std.proofs.Common.{◌≡◌, ◌+◌, ◌*◌, ◌-◌, ◌≤◌}
use Rattle.files.specs.Lengths.{origins_needed}
use Rattle.files.proofs.arrays.OriginArrays.variables_length.Given as goal

abbrev pub invariant-loop-i : goal.invariant-loop-i
invariant-loop-i l =
    (l.bytes + origins_needed l.self.sizes l.i (l.self.variables - l.i) ≡ origins_needed l.self.sizes 0 l.self.variables)
    × (l.bytes ≤ 520 * l.i)
