-- The test is the definition's own.
use borrow.Author.Rules.{rules}
use Rattle.bits.specs.Sets.{in_word, in_words}
use Rattle.bits.proofs.sets.has.Goals as goal

pub returns : goal.returns
unfolding in_words in_word
returns c = search rules
