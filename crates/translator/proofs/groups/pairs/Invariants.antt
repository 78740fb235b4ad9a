-- The pairs that are left end where all end.
use Prim.Native.Nat.{◌-◌}
use mathlib.Core.Path.{◌≡◌}
use Rattle.translator.specs.Sas.{line_feed}
use Rattle.translator.specs.Text.{each, free_pair}
use Rattle.translator.specs.Format.{cursor_at, cursor_after}
use Rattle.translator.proofs.groups.pairs.Given as goal

abbrev pub invariant-loop : goal.invariant-loop
invariant-loop l =
    (l.text.bytes ≡ l.fn.text.bytes)
    × (cursor_after (each (free_pair line_feed) (l.count - l.counter)) l.fn.text.bytes.now (cursor_at l.text.at) ≡ cursor_after (each (free_pair line_feed) l.count) l.fn.text.bytes.now (cursor_at l.fn.text.at))
