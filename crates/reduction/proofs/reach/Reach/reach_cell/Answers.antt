-- Where there is a fact and it is new, its mark is set and the counts of the actions that ask for it are lowered.
use native.Mathlib.Omega.{arith}
use lib.ListN.{length-set}
use Rattle.marking.proofs.SetWhere.{set_none}
use Rattle.reduction.specs.ReachDense.{cell_fact}
use Rattle.reduction.proofs.ReachRows.{cell_none}
use Rattle.reduction.proofs.ReachStates.{reaches_nothing, known_already, some_lacking, reaches_cell}
use Rattle.reduction.proofs.reach.Reach.reach_cell.Goals as goal

pub returns-then-cell-eq-NO_PAIR : goal.returns-then-cell-eq-NO_PAIR
returns-then-cell-eq-NO_PAIR c =
    let a = c.args in
    reaches_nothing _ _ (cell_fact a.v a.cell) a.self.now.facts _ _ _ c.requires.state
    (set_none (cell_fact a.v a.cell) a.self.now.facts (λ i. cell_none a.v a.cell i c.if-cell-eq-NO_PAIR.true))

pub returns-then-self-place-eq1 : goal.returns-then-self-place-eq1
returns-then-self-place-eq1 c =
    let a = c.args in
    reaches_nothing _ _ (cell_fact a.v a.cell) a.self.now.facts _ _ _ c.requires.state
    (known_already a.v a.cell a.self.now.facts c.if-cell-eq-NO_PAIR.false c.if-self-place-eq1.true)

pub lower_row-requires : goal.lower_row-requires
lower_row-requires c =
    let a = c.args in
    let state = c.requires.state in
    record {
      known = omega (arith, c.requires.variable);
      few = state.few;
      counts_room = state.counts_room;
      order_room = state.order_room;
      some = some_lacking _ _ a.v a.cell c.requires.variable c.if-cell-eq-NO_PAIR.false a.self.now.facts _ _ _ state c.if-self-place-eq1.false;
      listing = state.listing;
    }

pub returns : goal.returns
returns c =
    let a = c.args in
    rw c.lower_row.ensures.facts
    (reaches_cell _ _ a.v a.cell c.requires.variable c.if-cell-eq-NO_PAIR.false a.self.now.facts _ _ _ c.requires.state c.if-self-place-eq1.false _ _ _
    c.lower_row.ensures.lowered
    (length-set a.self.now.facts _ 1))
