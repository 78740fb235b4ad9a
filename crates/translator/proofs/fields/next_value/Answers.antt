-- A number above the limit is told from no larger one.
use Rattle.translator.proofs.NumberReading.{capped_small, capped_large}
use borrow.Author.Rules.{rules}
use Rattle.translator.proofs.fields.next_value.Goals as goal

pub returns-then-next-gt-MOST : goal.returns-then-next-gt-MOST
returns-then-next-gt-MOST c = search (rules, capped_large)

pub returns : goal.returns
returns c = search (rules, capped_small)
