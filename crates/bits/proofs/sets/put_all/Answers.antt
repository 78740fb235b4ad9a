use native.Mathlib.Omega.{arith}
use Rattle.std.proofs.Common.{rules}
use Rattle.std.proofs.lemmas.Grind.{div_ceil_times}
use Rattle.bits.proofs.PutLoops.{put_next}
use Rattle.bits.proofs.sets.put_all.Goals as goal

pub loop-place-preserved : goal.loop-place-preserved
loop-place-preserved g c =
    put_next _ _ _ _ _ _ c.loop-place.invariant _ _ _ c.word_of.ensures (λ k b p. search rules) c.min.ensures
    (omega (arith, c.requires.few, c.requires.room, div_ceil_times c.args.count 64, c.div_ceil-place-end.ensures))
