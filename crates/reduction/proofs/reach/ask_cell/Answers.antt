-- A cell that is not there has no fact; else the action is put into the set of its place.
use mathlib.Core.Path.{refl}
use borrow.Author.Tests.{eq-eqb, ne_eqb}
use Rattle.reduction.proofs.ReachRows.{ask_none, ask_one}
use Rattle.reduction.proofs.reach.ask_cell.Goals as goal

pub returns-then-cell-eq-NO_PAIR : goal.returns-then-cell-eq-NO_PAIR
returns-then-cell-eq-NO_PAIR c =
    let a = c.args in
    record {
      asking = ask_none a.v a.cell a.a _ c.if-cell-eq-NO_PAIR.true;
      one = rw (eq-eqb a.cell 255 c.if-cell-eq-NO_PAIR.true) refl;
    }

pub returns : goal.returns
returns c =
    let a = c.args in
    let there = c.if-cell-eq-NO_PAIR.false in
    record {
      asking = ask_one a.v a.cell a.a _ _ there c.requires.known c.add.ensures;
      one = rw (ne_eqb a.cell 255 there) refl;
    }
