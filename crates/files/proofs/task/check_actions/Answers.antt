use Rattle.std.proofs.Common.{◌≡◌, List, Bor, ℕ, ap, arith}
use mathlib.Core.Path.{◌∙◌}
use Rattle.files.specs.Records.{record_end}
use Rattle.files.proofs.Steps.{actions_none, actions_stop, actions_next}
use Rattle.files.proofs.task.check_actions.Goals as goal

pub returns-in_err-check_action : goal.returns-in_err-check_action
returns-in_err-check_action c = search (actions_stop, c.in_err-check_action.ensures)

pub loop-preserved : goal.loop-preserved
loop-preserved c =
    let file = ap (λ (b : Bor (List ℕ)). b.now) c.past-reader.ensures.file ∙ c.loop.invariant.0 in
    let at : c.past-reader.result.at ≡ record_end c.args.s.now c.loop.reader.at = c.past-reader.ensures.is ∙ ap (λ (s : List ℕ). record_end s c.loop.reader.at) c.loop.invariant.0 in
    (file, actions_next _ _ _ _ _ c.loop.invariant.1 _ c.loop-test.true c.in_ok-check_action.ensures at, omega (arith, c.loop.invariant.2, c.past-reader.ensures.below, c.loop-test.true))

pub returns : goal.returns
returns c = search actions_none
