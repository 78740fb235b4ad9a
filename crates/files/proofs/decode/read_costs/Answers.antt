-- The place and the count of an accepted file's actions are known, so the costs placed are those of its task.
use Rattle.std.proofs.Common.{◌≡◌, ℕ, List, Bor, ap, arith}
use mathlib.Core.Path.{◌∙◌}
use Rattle.files.specs.Bytes.{Octets}
use Rattle.files.specs.Records.{record_end}
use Rattle.files.proofs.Decoding.{costs_next, costs_none}
use Rattle.files.proofs.HeldLaws.{actions_in_few, held_costs}
use Rattle.files.proofs.decode.read_costs.Goals as goal

pub bounds-costs-a : goal.bounds-costs-a
bounds-costs-a c =
    let f = c.args.file.now in
    let octets : Octets f = λ i. omega (arith, c.type_inv.file i) in
    omega (arith, actions_in_few f octets c.requires, c.actions_in-a-end.ensures.is, c.loop-a-test.true)

pub loop-a-preserved : goal.loop-a-preserved
loop-a-preserved c =
    let r = c.loop-a.reader in
    let file = ap (λ (b : Bor (List ℕ)). b.now) c.past-reader.ensures.file ∙ c.loop-a.invariant.0 in
    let at : c.past-reader.result.at ≡ record_end c.args.file.now r.at = c.past-reader.ensures.is ∙ ap (λ (s : List ℕ). record_end s r.at) c.loop-a.invariant.0 in
    (file, omega (arith, c.loop-a.invariant.1, c.past-reader.ensures.below), costs_next _ _ _ _ _ _ c.loop-a.invariant.2 _ _ c.loop-a-test.true at c.read_cost.ensures)

pub returns : goal.returns
returns c =
    let f = c.args.file.now in
    let octets : Octets f = λ i. omega (arith, c.type_inv.file i) in
    held_costs f octets c.requires _ _ _ _ c.actions_place.ensures.is c.actions_in-a-end.ensures.is (omega arith)
    (costs_none _ _ _ _ _ _ c.loop-a.invariant.2 c.loop-a-test.false)
