use Rattle.std.proofs.Common.{◌≡◌, ℕ, List, Bor, ap, arith}
use mathlib.Core.Path.{◌∙◌}
use Rattle.files.specs.Records.{record_end}
use Rattle.files.proofs.Decoding.{actions_next, actions_none}
use Rattle.files.proofs.arrays.Arrays.read_actions.Goals as goal

pub loop-a-preserved : goal.loop-a-preserved
loop-a-preserved c =
    let r = c.loop-a.reader in
    let file = ap (λ (b : Bor (List ℕ)). b.now) c.past-reader.ensures.file ∙ c.loop-a.invariant.0 in
    let at : c.past-reader.result.at ≡ record_end c.args.s.now r.at = c.past-reader.ensures.is ∙ ap (λ (s : List ℕ). record_end s r.at) c.loop-a.invariant.0 in
    (file, omega (arith, c.loop-a.invariant.1, c.past-reader.ensures.below), actions_next _ _ _ _ _ _ c.loop-a.invariant.2 _ _ c.loop-a-test.true at c.read_action.ensures)

pub returns : goal.returns
returns c =
    rw (← c.actions_place.ensures.is) (actions_none _ _ _ _ _ _ c.loop-a.invariant.2 c.loop-a-test.false)
