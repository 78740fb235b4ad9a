-- The loop's invariant: the word has those of the numbers before `k` that pass.
use Rattle.bits.specs.Sets.{WordOf}
use Rattle.bits.proofs.sets.word_of.Given as goal

abbrev pub invariant-loop-k : goal.invariant-loop-k
invariant-loop-k g l = WordOf (goal.F-post g l.fn.test) l.k l.word
