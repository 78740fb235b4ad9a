use Rattle.std.proofs.Common.{◌≡◌, List, Bor, ℕ, ap, arith}
use mathlib.Core.Path.{◌∙◌}
use Rattle.files.specs.OriginFile.{origin_variables_in}
use Rattle.files.specs.Records.{record_end}
use Rattle.files.proofs.Steps.{origins_counted, origins_stop, origins_all}
use Rattle.files.proofs.origin.variables_in.Goals as goal

pub returns-then-kind_at-ne-VARIABLE_ORIGIN : goal.returns-then-kind_at-ne-VARIABLE_ORIGIN
unfolding origin_variables_in
returns-then-kind_at-ne-VARIABLE_ORIGIN c =
    record { is = origins_stop _ _ _ _ _ c.loop-i.invariant.1 _ c.loop-i-test.true c.kind_at.ensures c.if-kind_at-ne-VARIABLE_ORIGIN.true; at_most = omega (arith, c.loop-i-test.true) }

pub loop-i-preserved : goal.loop-i-preserved
loop-i-preserved c =
    let r = c.loop-i.reader in
    let file = ap (λ (b : Bor (List ℕ)). b.now) c.past-reader.ensures.file ∙ c.loop-i.invariant.0 in
    let at : c.past-reader.result.at ≡ record_end c.args.s.now r.at = c.past-reader.ensures.is ∙ ap (λ (s : List ℕ). record_end s r.at) c.loop-i.invariant.0 in
    (file, origins_counted _ _ _ _ _ c.loop-i.invariant.1 _ _ c.loop-i-test.true c.kind_at.ensures c.if-kind_at-ne-VARIABLE_ORIGIN.false at, omega (arith, c.loop-i.invariant.2, c.past-reader.ensures.below))

pub returns : goal.returns
unfolding origin_variables_in
returns c =
    let all = origins_all _ _ _ _ _ c.loop-i.invariant.1 c.loop-i-test.false in
    record { is = omega (arith, all, c.loop-i-test.false, c.loop-i.auto.i-end); at_most = omega arith }
