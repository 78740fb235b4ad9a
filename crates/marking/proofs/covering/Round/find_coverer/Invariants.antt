-- The loop's invariant: none of the actions from `from` on that were given covers.
use Rattle.std.proofs.Common.{◌≡◌, ◌*◌}
use Rattle.bits.specs.Sets.{in_words}
use Rattle.marking.proofs.CoverSearch.{Sought}
use Rattle.marking.proofs.covering.Round.find_coverer.Given as goal

abbrev pub invariant-loop-b : goal.invariant-loop-b
invariant-loop-b l =
    let r = l.self in
    let d = r.task.now in
    let given = l.b-iterator in
    Sought r.kept.now r.could_cover.now d.effects r.tracked.now d.variables d.actions l.a l.from given.from
    × (in_words given.words.now given.at ≡ in_words r.could_cover.now (8 * l.a))
    × (given.limit ≡ d.actions)
