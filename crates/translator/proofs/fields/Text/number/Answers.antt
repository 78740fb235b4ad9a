-- The digits, then the separator.
use borrow.Author.Rules.{rules}
use Rattle.translator.proofs.Calls.{handed, value_open, value_shut, number_ended}
use Rattle.translator.specs.Reads.{separator_of}
use Rattle.translator.proofs.CursorLaws.{go, stop}
use Rattle.translator.proofs.NumberReading.{numeral_count, number_read}
use Rattle.translator.proofs.fields.Text.number.Goals as goal

pub numeral_due-requires : goal.numeral_due-requires
numeral_due-requires c = numeral_count _ _ c.numeral-found.ensures

pub returns-in_err-numeral_due-clause-read : goal.returns-in_err-numeral_due-clause-read
returns-in_err-numeral_due-clause-read c =
    rw (handed _ _ c.from_residual.ensures.1)
    (number_read _ _ _ _ _ _ _ c.numeral-found.ensures c.in_err-numeral_due.ensures (stop _ _) (value_shut _ _))

pub overflow_add-self : goal.overflow_add-self
overflow_add-self c = let self = c.args.self.now in let within = number_ended (separator_of c.args.separator) self.bytes.now self.at _ self.limited self.within c.numeral-found.ensures c.in_ok-numeral_due.ensures in search rules

pub overflow_add-self-2 : goal.overflow_add-self-2
overflow_add-self-2 c = let self = c.args.self.now in let within = number_ended (separator_of c.args.separator) self.bytes.now self.at _ self.limited self.within c.numeral-found.ensures c.in_ok-numeral_due.ensures in search rules

pub invariant_of-self : goal.invariant_of-self
invariant_of-self c = let self = c.args.self.now in record { limited = self.limited; within = number_ended (separator_of c.args.separator) self.bytes.now self.at _ self.limited self.within c.numeral-found.ensures c.in_ok-numeral_due.ensures }

pub returns-clause-read : goal.returns-clause-read
returns-clause-read c = number_read _ _ _ _ _ _ _ c.numeral-found.ensures c.in_ok-numeral_due.ensures (go _) (value_open _ _)
