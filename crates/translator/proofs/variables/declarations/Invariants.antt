-- The declarations that are left, behind the sizes stored, give all.
use mathlib.Core.Path.{◌≡◌}
use Rattle.translator.specs.Format.{cursor_at}
use Rattle.translator.proofs.StartReading.{DeclarationsFrom}
use Rattle.translator.proofs.variables.declarations.Given as goal

abbrev pub invariant-loop-v : goal.invariant-loop-v
invariant-loop-v l = (l.text.bytes ≡ l.fn.text.bytes) × DeclarationsFrom l.fn.text.bytes.now (cursor_at l.fn.text.at) l.count l.fn.sizes (cursor_at l.text.at) l.v l.sizes
