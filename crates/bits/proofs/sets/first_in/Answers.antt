-- The zeros of the word from `from` on are before its first number there.
use Prim.Native.Nat.{◌/◌, ◌^◌}
use mathlib.Core.Path.{refl}
use native.Mathlib.Omega.{arith}
use lib.Count.{trailing_le}
use Rattle.bits.proofs.SetLoops.{first_within, first_beyond, first_none}
use Rattle.bits.proofs.sets.first_in.Goals as goal

pub overflow_cast-r : goal.overflow_cast-r
overflow_cast-r c = omega (arith, trailing_le 64 (c.args.word / 2 ^ c.args.from))

pub overflow_add-r : goal.overflow_add-r
overflow_add-r c = omega (arith, trailing_le 64 (c.args.word / 2 ^ c.args.from), c.requires.few, c.requires.start)

pub returns-then-r-limit : goal.returns-then-r-limit
returns-then-r-limit c = first_within _ _ _ _ c.requires.few c.requires.start refl c.if-r-limit.true

pub returns-else-r-limit : goal.returns-else-r-limit
returns-else-r-limit c = first_beyond _ _ _ _ c.requires.few c.requires.start refl c.if-r-limit.false

pub returns-else-from-limit : goal.returns-else-from-limit
returns-else-from-limit c = first_none _ _ _ c.requires.start c.if-from-limit.false
