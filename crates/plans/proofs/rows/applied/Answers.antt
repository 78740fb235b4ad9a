-- Each cell of the result is what the effects leave of the one before.
use Rattle.std.proofs.Common.{rules, ℕ, get_or, arith}
use Rattle.plans.specs.Tally.{after_cell}
use Rattle.plans.proofs.RowStates.{effects_applied, made_of}
use Rattle.plans.proofs.rows.applied.Goals as goal

pub returns : goal.returns
returns c =
    let a = c.args in
    let cell : ℕ → ℕ = λ w. after_cell (get_or a.row w 0) (get_or a.state w 0) in
    effects_applied a.row a.state c.from_fn.result c.from_fn.ensures.items.long (omega arith)
    (made_of _ _ cell (λ i y q k. search rules) _ _ c.from_fn.ensures.items)
