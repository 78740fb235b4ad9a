-- A digit at least, then the separator.
use borrow.Author.Rules.{rules}
use Rattle.translator.specs.Reads.{separator_of}
use Rattle.translator.specs.Sas.{byte_of}
use Rattle.translator.proofs.NumberReading.{numeral_reaches, numeral_missing, numeral_ended}
use Rattle.translator.proofs.fields.Text.numeral_due.Goals as goal

pub returns-then-count-lt1 : goal.returns-then-count-lt1
returns-then-count-lt1 c = numeral_missing _ _ _ _ _ c.requires c.if-count-lt1.true c.at.ensures

pub overflow_add-self : goal.overflow_add-self
overflow_add-self c = let self = c.args.self.now in let within = numeral_reaches self.bytes.now self.at c.args.count self.within c.requires in search rules

pub returns : goal.returns
returns c =
    let self = c.args.self.now in
    let due = c.byte.ensures in
    numeral_ended (byte_of (separator_of c.args.separator)) self.bytes.now self.at c.args.count _ c.requires c.if-count-lt1.false (search rules)
