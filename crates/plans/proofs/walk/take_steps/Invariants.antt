-- The loop's invariant: what is left to check from here is what the whole plan asks, and the tally with what is left to add up is the whole plan's total.
use Prim.Native.Nat.{◌*◌, ◌≤◌}
use mathlib.Core.Path.{◌≡◌}
use Rattle.files.specs.Dense.{held}
use Rattle.files.specs.PlanFile.{plan_of}
use Rattle.plans.proofs.WalkLaws.{Walking}
use Rattle.plans.proofs.walk.take_steps.Given as goal

abbrev pub invariant-loop-i : goal.invariant-loop-i
invariant-loop-i l =
    Walking (held l.task) (plan_of l.plan) l.tally l.i
    × (l.tally.minutes.0 ≤ l.i * 4294967296)
    × (l.tally.steps.0 ≡ l.i)
