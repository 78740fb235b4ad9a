-- The number behind the digits that are left is the number behind all.
use Rattle.translator.proofs.NumberReading.{DigitsFrom}
use Rattle.translator.proofs.fields.Text.digits.Given as goal

abbrev pub invariant-loop-here : goal.invariant-loop-here
invariant-loop-here l = DigitsFrom l.self.bytes.now l.self.at l.value l.here
