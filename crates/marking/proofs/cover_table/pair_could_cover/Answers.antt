-- The three quick tests, and then every condition of b.
use Prim.Native.Nat.{ℕ}
use mathlib.Core.Path.{ap, ◌∙◌}
use lib.Dec.{eqb}
use Rattle.marking.proofs.NestedRows.{told_apart, not_told_apart}
use Rattle.marking.proofs.cover_table.pair_could_cover.Goals as goal

pub returns-then-any_of : goal.returns-then-any_of
returns-then-any_of c =
    let a = c.args in
    told_apart a.costs.now a.conditions.now a.variables a.b a.a a.counts.now a.first c.requires.count c.requires.other_count _ _
    c.is_missing-lacks.ensures
    c.any_of.ensures
    c.if-any_of.true

pub returns : goal.returns
returns c =
    let a = c.args in
    ap (λ (n : ℕ). eqb n 0) c.missing.ensures
    ∙ not_told_apart a.costs.now a.conditions.now a.variables a.b a.a a.counts.now a.first c.requires.count c.requires.other_count _ _
    c.is_missing-lacks.ensures
    c.any_of.ensures
    c.if-any_of.false
