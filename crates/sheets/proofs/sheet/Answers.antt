-- The plan checker, the room for the page and the lines give the answer in this order; the costs are those of the file's task.
use mathlib.Core.Path.{refl}
use native.Mathlib.Omega.{arith}
use Rattle.files.specs.Bytes.{Octets}
use Rattle.sheets.proofs.CallLaws.{lays_unchecked, lays_short, task_checked, steps_fit_lem, lays_page}
use Rattle.sheets.proofs.sheet.Goals as goal

pub returns-in_err-total : goal.returns-in_err-total
returns-in_err-total c = lays_unchecked _ _ _ _ _ c.from_residual.ensures.1 c.in_err-total.ensures

pub returns-then-page-length : goal.returns-then-page-length
returns-then-page-length c = lays_short _ _ _ c.in_ok-total.ensures _ _ refl _ c.if-page-length.true c.at.ensures

pub read_costs-requires : goal.read_costs-requires
read_costs-requires c = task_checked _ c.args.plan.now _ c.in_ok-total.ensures

pub put_steps-requires : goal.put_steps-requires
put_steps-requires c =
    let octets : Octets c.args.task.now = λ i. omega (arith, c.type_inv.task i) in
    steps_fit_lem _ _ _ c.in_ok-total.ensures _ _ refl c.if-page-length.false octets _ c.read_costs.ensures

pub returns : goal.returns
returns c =
    let octets : Octets c.args.task.now = λ i. omega (arith, c.type_inv.task i) in
    lays_page _ _ _ c.in_ok-total.ensures _ _ refl c.if-page-length.false octets c.read_costs.new.costs c.read_costs.ensures
    _ _ _ c.signer-signer.ensures.is c.signer-signer.ensures.below c.put_steps.ensures c.put_signed.ensures _ refl
