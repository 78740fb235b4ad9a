-- A number that begins with 0 has that digit alone.
use Rattle.translator.proofs.NumberReading.{numeral_zero, numeral_digits}
use Rattle.translator.proofs.fields.Text.numeral.Goals as goal

pub returns-then-next_is : goal.returns-then-next_is
returns-then-next_is c = numeral_zero c.args.self.now.bytes.now c.args.self.now.at c.if-next_is.ensures

pub returns : goal.returns
returns c = numeral_digits c.args.self.now.bytes.now c.args.self.now.at _ c.if-next_is.ensures c.digits.ensures
