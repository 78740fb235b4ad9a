-- The loop's invariant: the entries are those that the actions before the next number of the set offer.
use mathlib.Core.Path.{◌≡◌}
use Rattle.bits.specs.Sets.{in_words}
use Rattle.distances.proofs.SettleLoops.{Actions}
use Rattle.distances.proofs.tables.Tables.offer_steps.Given as goal

abbrev pub invariant-loop-a : goal.invariant-loop-a
invariant-loop-a l =
    Actions l.self.task.now l.x l.initial.a-iterator.words.now l.bound l.initial.entries l.initial.selection l.entries l.selection l.a-iterator.from
    × (in_words l.a-iterator.words.now l.a-iterator.at ≡ in_words l.initial.a-iterator.words.now 0)
    × (l.a-iterator.limit ≡ l.self.task.now.actions)
