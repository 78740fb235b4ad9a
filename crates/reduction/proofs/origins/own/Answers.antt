-- The calls in turn fill the arrays with own numbers.
use Rattle.std.proofs.Common.{rules}
use Rattle.reduction.proofs.OriginsHeld.{owns}
use Rattle.reduction.proofs.origins.own.Goals as goal

pub returns : goal.returns
returns c =
    owns c.args.task.now c.requires _ _ _
    (λ i default l. let e = c.set_row.ensures.cells i default l in search rules)
    (λ v d l k. let e = c.set_rows.ensures.cells v d l k in search rules)
    (λ j default l. let e = c.set_row-2.ensures.cells j default l in search rules)
