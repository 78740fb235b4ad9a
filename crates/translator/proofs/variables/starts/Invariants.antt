-- The start values that are left, behind those stored, give all.
use mathlib.Core.Path.{◌≡◌}
use Rattle.translator.specs.Format.{cursor_at}
use Rattle.translator.proofs.StartReading.{StartsFrom}
use Rattle.translator.proofs.variables.starts.Given as goal

abbrev pub invariant-loop-v : goal.invariant-loop-v
invariant-loop-v l = (l.text.bytes ≡ l.fn.text.bytes) × StartsFrom l.fn.text.bytes.now (cursor_at l.fn.text.at) l.count l.sizes l.fn.starts (cursor_at l.text.at) l.v l.starts
