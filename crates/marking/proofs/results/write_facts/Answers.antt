use Rattle.std.proofs.Common.{◌≡◌, refl, arith}
use Rattle.files.specs.Below.{sum_of}
use Rattle.files.specs.Bytes.{placed}
use Rattle.files.proofs.LoopCounts.{sum_next, sum_within}
use Rattle.marking.proofs.ResultLaws.{facts_next}
use Rattle.marking.proofs.results.write_facts.Goals as goal

pub loop-v-init : goal.loop-v-init
unfolding placed sum_of
loop-v-init c = (refl, refl)

pub overflow_cast-size : goal.overflow_cast-size
overflow_cast-size c =
    omega (arith, c.requires.source.few_values c.loop-v.v c.loop-v-test.true)

pub write_values-requires : goal.write_values-requires
write_values-requires c =
    let l = c.loop-v in
    let d = c.args.task.now in
    let more = c.loop-v-test.true in
    record { source = record { known = omega arith; few = c.requires.source.few_values l.v more }; room = omega (arith, sum_within d.sizes l.v d.variables l.at more l.invariant.1) }

pub overflow_add-at : goal.overflow_add-at
overflow_add-at c =
    let l = c.loop-v in
    let d = c.args.task.now in
    omega (arith, sum_within d.sizes l.v d.variables l.at c.loop-v-test.true l.invariant.1)

pub loop-v-preserved : goal.loop-v-preserved
loop-v-preserved c =
    let l = c.loop-v in
    let sizes = c.args.task.now.sizes in
    (facts_next _ _ sizes _ _ _ l.v l.at l.invariant.0 l.invariant.1 c.write_values.ensures, sum_next sizes l.v l.at _ l.invariant.1 refl)

pub returns : goal.returns
returns c = let end : c.loop-v.v ≡ c.args.task.now.variables = omega arith in rw (← end) c.loop-v.invariant.0
