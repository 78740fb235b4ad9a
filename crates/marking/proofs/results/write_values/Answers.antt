use Rattle.std.proofs.Common.{◌≡◌, refl, ℕ, ◌+◌, ◌*◌, arith, get_or}
use Rattle.files.specs.Bytes.{placed}
use Rattle.marking.specs.Dense.{fact_byte, fact_bytes}
use Rattle.marking.proofs.ResultLaws.{byte_next}
use Rattle.marking.proofs.results.write_values.Goals as goal

pub loop-d-init : goal.loop-d-init
unfolding placed fact_bytes
loop-d-init c = refl

pub loop-d-preserved : goal.loop-d-preserved
unfolding fact_bytes
loop-d-preserved c =
    let l = c.loop-d in
    let a = c.args in
    let mark : ℕ → ℕ = λ d. fact_byte (get_or a.facts.now (32 * a.v + d) 0) (get_or a.unlinked.now (32 * a.v + d) 0) in
    byte_next mark _ _ a.at l.d _ _ l.invariant refl c.fact_mark.ensures

pub returns : goal.returns
returns c = let end : c.loop-d.d ≡ c.args.size = omega arith in rw (← end) c.loop-d.invariant
