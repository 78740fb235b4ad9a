-- The names that are left end where all end.
use Prim.Native.Nat.{◌-◌}
use mathlib.Core.Path.{◌≡◌}
use Rattle.translator.specs.Fields.{name}
use Rattle.translator.specs.Format.{field, gives}
use Rattle.translator.specs.Text.{any, each}
use Rattle.translator.specs.Format.{cursor_at, cursor_after}
use Rattle.translator.proofs.variables.names.Given as goal

abbrev pub invariant-loop : goal.invariant-loop
invariant-loop l =
    (l.text.bytes ≡ l.fn.text.bytes)
    × (cursor_after (each (field name any gives) (l.count - l.counter)) l.fn.text.bytes.now (cursor_at l.text.at) ≡ cursor_after (each (field name any gives) l.count) l.fn.text.bytes.now (cursor_at l.fn.text.at))
