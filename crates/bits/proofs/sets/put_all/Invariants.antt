-- The loop's invariant: the numbers of the words before `place` are put.
use Prim.Native.Nat.{◌*◌, min}
use Rattle.bits.specs.Sets.{AllPut}
use Rattle.bits.proofs.sets.put_all.Given as goal

abbrev pub invariant-loop-place : goal.invariant-loop-place
invariant-loop-place g l = AllPut (goal.F-post g l.fn.test) l.at (min l.count (64 * l.place)) l.initial.words l.words
