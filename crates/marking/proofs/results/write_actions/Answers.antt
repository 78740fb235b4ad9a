use Rattle.std.proofs.Common.{◌≡◌, refl, arith, get_or}
use Rattle.files.specs.Bytes.{placed}
use Rattle.marking.proofs.ResultLaws.{byte_next}
use Rattle.marking.proofs.results.write_actions.Goals as goal

pub loop-a-init : goal.loop-a-init
unfolding placed
loop-a-init c = refl

pub loop-a-preserved : goal.loop-a-preserved
loop-a-preserved c =
    let l = c.loop-a in
    byte_next (λ j. get_or c.args.kept.now j 0) _ _ 0 l.a _ _ l.invariant (omega arith) refl

pub returns : goal.returns
returns c = let end : c.loop-a.a ≡ c.args.actions = omega arith in rw (← end) c.loop-a.invariant
