-- The effects are applied to the state, and the cost and one step are added.
use Prim.Native.Nat.{◌+◌}
use mathlib.Core.Path.{◌≡◌, fun_ext}
use native.Mathlib.Omega.{arith}
use Rattle.plans.specs.Plan.{add_step}
use Rattle.plans.specs.State.{apply}
use Rattle.plans.specs.Tally.{list_state, row_of, state_of, total_in}
use Rattle.plans.proofs.tally.Tally.step.Goals as goal

pub returns : goal.returns
unfolding state_of list_state apply row_of total_in add_step
returns c =
    let a = c.args in
    let minutes : a.self.minutes.0 + a.action.cost.0 ≡ a.action.cost.0 + a.self.minutes.0 = omega arith in
    record { reached = fun_ext (λ v. c.applied.ensures v); counted = λ i. record { minutes = minutes i; steps = a.self.steps.0 + 1 } }
