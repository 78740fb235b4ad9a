-- The groups that are left end where all end.
use Prim.Native.Nat.{◌-◌}
use mathlib.Core.Path.{◌≡◌}
use Rattle.translator.specs.Text.{each, group}
use Rattle.translator.specs.Format.{cursor_at, cursor_after}
use Rattle.translator.proofs.groups.groups_of.Given as goal

abbrev pub invariant-loop : goal.invariant-loop
invariant-loop l =
    (l.text.bytes ≡ l.fn.text.bytes)
    × (cursor_after (each (group) (l.count - l.counter)) l.fn.text.bytes.now (cursor_at l.text.at) ≡ cursor_after (each (group) l.count) l.fn.text.bytes.now (cursor_at l.fn.text.at))
