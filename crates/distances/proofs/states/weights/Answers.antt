use Rattle.std.proofs.Common.{arith, ◌≡◌, ◌<◌, ◌≤◌, get_or, refl, ◌∙◌}
use lib.ListN.{length-set}
use Rattle.files.proofs.Filling.{filled_before}
use Rattle.lookup.specs.Moves.{row_weight}
use Rattle.distances.proofs.RowNumbers.{weight_most}
use Rattle.lookup.proofs.MoveLoops.{product_most}
use Rattle.distances.proofs.StateLoops.{weight_first, weight_next}
use Rattle.distances.proofs.states.weights.Goals as goal

pub loop-v-init : goal.loop-v-init
loop-v-init c = (λ w h. absurd (omega arith), weight_first c.args.sizes.now, omega arith, refl)

pub overflow_mul-weight : goal.overflow_mul-weight
overflow_mul-weight c =
    let l = c.loop-v in
    let below : l.weight ≤ 4096 = omega (arith, weight_most c.args.sizes.now l.v c.args.variables c.requires.sized.least l.invariant.2, c.requires.states) in
    let few : get_or c.args.sizes.now l.v 0 < 256 = omega arith in
    omega (arith, product_most _ _ below few)

pub loop-v-preserved : goal.loop-v-preserved
loop-v-preserved c =
    let l = c.loop-v in (
      filled_before l.weights l.v _ (λ w x. x ≡ row_weight c.args.sizes.now w) (omega arith) l.invariant.0 l.invariant.1,
      weight_next c.args.sizes.now _ _ _ l.invariant.1 refl,
      omega arith,
      length-set l.weights l.v _ ∙ l.invariant.3,
    )
