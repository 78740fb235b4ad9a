-- The entry of the next state with the step in front is the state's own.
use mathlib.Core.Path.{sym, ◌∙◌}
use Rattle.search.proofs.Leading.{has_none, has_some}
use Rattle.search.proofs.first_plan.has_by.Goals as goal

pub returns-then-is_none : goal.returns-then-is_none
returns-then-is_none c = has_none _ _ c.args.costs.now _ _ c.is_none.ensures c.if-is_none.true

pub after_step-requires : goal.after_step-requires
after_step-requires c =
    let pre = c.requires in
    record { low = pre.low (sym c.is_none.ensures ∙ c.if-is_none.false); cost_most = pre.cost_most }

pub returns : goal.returns
returns c = has_some _ _ c.args.costs.now _ _ c.is_none.ensures c.if-is_none.false _ c.after_step.ensures _ c.is_same.ensures
