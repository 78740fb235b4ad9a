-- The condition's value where there is an effect.
use Rattle.lookup.proofs.MoveLoops.{asked_none, asked_some}
use Rattle.lookup.proofs.moves.asked_of.Goals as goal

pub returns-then-effect-eq-NO_PAIR : goal.returns-then-effect-eq-NO_PAIR
returns-then-effect-eq-NO_PAIR c = asked_none c.args.condition _ c.if-effect-eq-NO_PAIR.true

pub returns : goal.returns
returns c = asked_some c.args.condition _ _ c.if-effect-eq-NO_PAIR.false c.set_by.ensures
