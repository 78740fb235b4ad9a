use Rattle.std.proofs.Common.{◌≡◌, List, Bor, ℕ, ap, arith}
use mathlib.Core.Path.{◌∙◌}
use Rattle.files.specs.Records.{record_end}
use Rattle.files.proofs.Steps.{records_next, records_none}
use Rattle.files.proofs.reader.records_after.Goals as goal

pub loop-preserved : goal.loop-preserved
loop-preserved c =
    let r = c.loop.reader in
    let file = ap (λ (b : Bor (List ℕ)). b.now) c.past-reader.ensures.file ∙ c.loop.invariant.0 in
    let at : c.past-reader.result.at ≡ record_end c.args.file.now r.at = c.past-reader.ensures.is ∙ ap (λ (s : List ℕ). record_end s r.at) c.loop.invariant.0 in
    (file, records_next _ _ _ _ _ _ c.loop.invariant.1 c.loop-test.true at, omega (arith, c.loop.invariant.2, c.past-reader.ensures.below, c.loop-test.true))

pub returns : goal.returns
returns c = record { is = records_none _ _ _ _ _ c.loop.invariant.1 c.loop-test.false; at_most = omega (arith, c.loop.invariant.2) }
