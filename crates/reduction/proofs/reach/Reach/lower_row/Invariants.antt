-- The loop's invariant: the counts of the actions of the set that were given are lowered.
use Prim.Native.Nat.{◌*◌}
use mathlib.Core.Path.{◌≡◌}
use Rattle.bits.specs.Sets.{in_words}
use Rattle.reduction.proofs.ReachLists.{LoweredTo}
use Rattle.reduction.proofs.reach.Reach.lower_row.Given as goal

abbrev pub invariant-loop-a : goal.invariant-loop-a
invariant-loop-a l =
    LoweredTo l.initial.self.counts l.initial.self.order (in_words l.rows (8 * l.place)) l.actions l.initial.self.found l.self.counts l.self.order l.self.found l.a-iterator.from
    × (l.self.facts ≡ l.initial.self.facts)
    × (in_words l.a-iterator.words.now l.a-iterator.at ≡ in_words l.rows (8 * l.place))
    × (l.a-iterator.limit ≡ l.actions)
