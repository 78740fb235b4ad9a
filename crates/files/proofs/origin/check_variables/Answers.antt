use Rattle.std.proofs.Common.{◌≡◌, List, Bor, ℕ, refl, ap, arith}
use mathlib.Core.Path.{◌∙◌}
use Rattle.files.specs.Records.{record_end}
use Rattle.files.proofs.Steps.{variable_origins_none, variable_origins_stop, variable_origins_next}
use Rattle.files.proofs.origin.check_variables.Goals as goal

pub returns-in_err-check_variable : goal.returns-in_err-check_variable
returns-in_err-check_variable c = search (variable_origins_stop, c.in_err-check_variable.ensures)

pub loop-preserved : goal.loop-preserved
loop-preserved c =
    let r = c.loop.reader in
    let file = ap (λ (b : Bor (List ℕ)). b.now) c.past-reader.ensures.file ∙ c.loop.invariant.0 in
    let at : c.past-reader.result.at ≡ record_end c.args.s.now r.at = c.past-reader.ensures.is ∙ ap (λ (s : List ℕ). record_end s r.at) c.loop.invariant.0 in
    (file, variable_origins_next _ _ _ _ _ _ c.loop.invariant.1 _ _ c.loop-test.true c.in_ok-check_variable.ensures c.variable_at-at_least.ensures.is at, omega (arith, c.loop.invariant.2, c.past-reader.ensures.below, c.loop-test.true))

pub returns : goal.returns
returns c = variable_origins_none _ _ _ _ _ _ c.loop.invariant.1 _ c.loop-test.false refl
