-- The pairs that are left make of the row what all make of it.
use Prim.Native.Nat.{◌-◌}
use mathlib.Core.Path.{◌≡◌}
use mathlib.Core.List.{[]}
use lib.ListN.{length}
use Rattle.translator.specs.Format.{cursor_at, cursor_after, value_after}
use Rattle.translator.specs.Text.{conditions}
use Rattle.translator.proofs.ConditionsReading.{ConditionsLeft}
use Rattle.translator.proofs.lists.conditions.Given as goal

abbrev pub invariant-loop : goal.invariant-loop
invariant-loop l =
    (l.text.bytes ≡ l.fn.text.bytes)
    × ConditionsLeft l.fn.text.bytes.now l.sizes l.base
    (cursor_after (conditions l.sizes [] l.count) l.fn.text.bytes.now (cursor_at l.fn.text.at))
    (value_after (conditions l.sizes [] l.count) l.fn.text.bytes.now (cursor_at l.fn.text.at))
    l.initial.row (cursor_at l.text.at) (l.count - l.counter) l.row
    × (length l.row ≡ length l.fn.row)
