use Rattle.std.proofs.Common.{◌≡◌, refl, ◌∙◌, ◌*◌, arith}
use lib.ListN.{length-set}
use Rattle.files.proofs.Filling.{filled_before}
use Rattle.marking.specs.Dense.{conditions_in}
use Rattle.marking.proofs.cover_table.condition_counts.Goals as goal

pub loop-a-init : goal.loop-a-init
loop-a-init c = (refl, λ w h. absurd (omega arith))

pub loop-a-preserved : goal.loop-a-preserved
loop-a-preserved c =
    let l = c.loop-a in
    let d = c.args.task.now in (
      length-set l.counts l.a _ ∙ l.invariant.0,
      filled_before l.counts l.a _ (λ w x. x ≡ conditions_in d.conditions (64 * w) d.variables) (omega arith) l.invariant.1 (cc),
    )

pub returns : goal.returns
returns c = record { count = λ w h. c.loop-a.invariant.1 w (omega arith) }
