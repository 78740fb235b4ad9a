-- The loop's invariant: the lines left, placed behind those that stand, make all the lines.
use Prim.Native.Nat.{ℕ}
use lib.ListN.{get_or}
use Rattle.files.specs.PlanFile.{plan_of}
use Rattle.sheets.proofs.StepLaws.{Writing}
use Rattle.sheets.proofs.lines.put_steps.Given as goal

abbrev pub invariant-loop-i : goal.invariant-loop-i
invariant-loop-i l = Writing (λ (a : ℕ). get_or l.costs a 0) l.initial.page (plan_of l.plan) l.page l.i l.total.0
