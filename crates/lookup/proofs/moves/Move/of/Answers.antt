use Prim.Native.Nat.{◌*◌}
use mathlib.Core.Path.{refl}
use Rattle.std.proofs.Common.{rules}
use Rattle.lookup.specs.Moves.{set_freely}
use Rattle.lookup.proofs.MoveLoops.{sums_begin, sums_next, sums_end, freely_word}
use Rattle.lookup.proofs.moves.Move.of.Goals as goal

pub loop-v-init : goal.loop-v-init
loop-v-init c = sums_begin _ _ _ _ _

pub loop-v-preserved : goal.loop-v-preserved
loop-v-preserved c =
    let l = c.loop-v in
    sums_next _ _ c.args.weights.now c.args.task.now.conditions c.args.task.now.effects l.v _ _ refl refl (search rules) (search rules)
    (c.requires.few.weights_few l.v c.loop-v-test.true) l.set l.asked _ _ c.set_by.ensures c.asked_of.ensures c.loop-v-test.true l.invariant

pub returns : goal.returns
unfolding set_freely
returns c sizes weight =
    let sums = sums_end _ _ _ _ _ _ _ _ c.loop-v.invariant c.loop-v-test.false sizes weight in
    record {
      set = sums.set_is;
      asked = sums.asked_is;
      free = λ v h. freely_word c.args.task.now.conditions c.args.task.now.effects (64 * c.args.a) _ _ _ c.word_of-free.ensures (λ u b p. search rules) v;
    }
