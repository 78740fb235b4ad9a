use Prim.Native.Nat.{◌≤◌}
use mathlib.Core.Path.{refl}
use native.Mathlib.Omega.{arith}
use lib.ListN.{get_or}
use Rattle.std.proofs.Common.{rules}
use Rattle.distances.proofs.RowNumbers.{weight_most}
use Rattle.lookup.proofs.MoveLoops.{product_most}
use Rattle.search.proofs.HereLoops.{can_find, know_begin, know_next, know_end}
use Rattle.search.proofs.stages.Search.here.Goals as goal

pub values_of-values-requires : goal.values_of-values-requires
values_of-values-requires c = c.requires.states.sized

pub cheap_in_all-actions-requires : goal.cheap_in_all-actions-requires
cheap_in_all-actions-requires c = can_find _ _ _ _ _ c.values_of-values.ensures c.requires

pub loop-v-init : goal.loop-v-init
loop-v-init c = know_begin _ _ _ _ refl

pub overflow_mul-added : goal.overflow_mul-added
overflow_mul-added c =
    let l = c.loop-v in
    let few : l.weight ≤ 4096 = omega (arith, l.invariant.weight_is, weight_most c.args.self.now.task.sizes l.v c.args.self.now.task.variables c.requires.states.sized.least (omega arith), c.requires.states.states) in
    omega (arith, product_most l.weight (get_or c.values_of-values.result l.v 0) few (search rules))

pub overflow_mul-weight : goal.overflow_mul-weight
overflow_mul-weight c =
    let l = c.loop-v in
    let few : l.weight ≤ 4096 = omega (arith, l.invariant.weight_is, weight_most c.args.self.now.task.sizes l.v c.args.self.now.task.variables c.requires.states.sized.least (omega arith), c.requires.states.states) in
    omega (arith, product_most l.weight (get_or c.args.self.now.task.sizes l.v 0) few (search rules))

pub loop-v-preserved : goal.loop-v-preserved
loop-v-preserved c =
    let l = c.loop-v in
    know_next _ _ c.args.self.now.rows.words _ _ c.values_of-values.ensures l.added _ _ _ _ l.invariant (omega (arith, c.requires.states.sized.few, c.loop-v-test.true)) refl refl

pub returns : goal.returns
returns c = know_end _ _ _ _ _ c.values_of-values.ensures _ _ _ _ c.loop-v.invariant c.loop-v-test.false c.cheap_in_all-actions.ensures
