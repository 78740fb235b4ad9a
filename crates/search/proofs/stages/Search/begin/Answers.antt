-- The refusals in their order; where there is a plan and room for it, its head is written.
use mathlib.Core.Path.{refl}
use native.Mathlib.Omega.{arith}
use Rattle.search.proofs.PlanFiles.{begins_refused, begins_room, begins_whole}
use Rattle.search.proofs.stages.Search.begin.Goals as goal

pub returns-in_err-entry_fits : goal.returns-in_err-entry_fits
returns-in_err-entry_fits c = begins_refused _ _ _ _ refl _ c.in_err-entry_fits.ensures c.from_residual.result c.from_residual.ensures.1

pub put_head-requires : goal.put_head-requires
put_head-requires c = omega (arith, begins_room c.args.self.now.states c.args.entry c.args.plan.now _ c.in_ok-entry_fits.ensures refl)

pub returns : goal.returns
returns c = begins_whole _ _ _ _ c.in_ok-entry_fits.ensures refl _ c.needed-needed.ensures _ c.put_head.ensures
