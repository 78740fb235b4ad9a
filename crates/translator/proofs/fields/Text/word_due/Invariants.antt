-- The bytes of the word that are left stand where the whole word does.
use Prim.Native.Nat.{◌+◌, ◌≤◌}
use mathlib.Core.Path.{◌≡◌}
use lib.ListN.{length, drop}
use Rattle.translator.specs.Fields.{word_at}
use Rattle.translator.proofs.fields.Text.word_due.Given as goal

abbrev pub invariant-loop-i : goal.invariant-loop-i
invariant-loop-i l =
    (word_at (drop l.i l.w) (drop (l.self.at + l.i) l.self.bytes.now) (l.self.at + l.i) ≡ word_at l.w (drop l.self.at l.self.bytes.now) l.self.at)
    × (l.self.at + l.i ≤ length l.self.bytes.now)
