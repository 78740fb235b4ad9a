-- The calls in turn read copies of the first arrays through the later turn's numbers.
use Rattle.reduction.proofs.OriginsHeld.{composes}
use Rattle.reduction.proofs.origins.compose.Goals as goal

pub returns : goal.returns
returns c =
    λ ok.
    composes c.args.origin.now c.args.later.now _ _ _ _
    c.map_variables.ensures
    c.map_variables-2.ensures
    c.compose_values.ensures
    c.map_actions.ensures
    ok
