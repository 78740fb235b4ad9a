-- By the cases of the effect and the condition.
use Rattle.lookup.proofs.HaveLaws.{have_effect, have_condition, have_any}
use Rattle.lookup.proofs.fact_rows.can_have.Goals as goal

pub returns-then-effect-ne-NO_PAIR : goal.returns-then-effect-ne-NO_PAIR
returns-then-effect-ne-NO_PAIR c = have_effect _ _ _ c.if-effect-ne-NO_PAIR.true

pub returns-then-condition-ne-NO_PAIR : goal.returns-then-condition-ne-NO_PAIR
returns-then-condition-ne-NO_PAIR c = have_condition _ _ _ c.if-effect-ne-NO_PAIR.false c.if-condition-ne-NO_PAIR.true

pub returns : goal.returns
returns c = have_any _ _ _ c.if-effect-ne-NO_PAIR.false c.if-condition-ne-NO_PAIR.false
