-- The effects that are left make of both rows what all make of them.
use Prim.Native.Nat.{ℕ, ◌-◌}
use mathlib.Core.Path.{◌≡◌}
use mathlib.Core.Bool.{true}
use mathlib.Core.List.{List}
use lib.ListN.{length}
use Rattle.translator.specs.ListContracts.{Given}
use Rattle.translator.specs.Format.{cursor_at, is_open}
use Rattle.translator.proofs.EffectsReading.{EffectsLeft}
use Rattle.translator.proofs.operators.effects_of.Given as goal

abbrev pub invariant-loop : goal.invariant-loop
invariant-loop l =
    (l.text.bytes ≡ l.fn.text.bytes)
    × ((first : List ℕ) → (is_open (cursor_at l.fn.text.at) ≡ true → Given l.fn.conditions l.fn.conditions l.base first)
    → EffectsLeft l.fn.text.bytes.now l.sizes first l.base (cursor_at l.fn.text.at) l.count l.fn.conditions l.initial.effects (cursor_at l.text.at) (l.count - l.counter) l.conditions l.effects)
    × (length l.conditions ≡ length l.fn.conditions)
    × (length l.effects ≡ length l.fn.effects)
