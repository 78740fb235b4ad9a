use borrow.Author.Tests.{eqb-false}
use Rattle.std.proofs.Common.{sym, ◌∙◌, arith}
use Rattle.marking.proofs.CoverTable.{columns_begin, columns_next}
use Rattle.marking.proofs.cover_table.fill.Goals as goal

pub returns-then-not-has_covering : goal.returns-then-not-has_covering
returns-then-not-has_covering c = λ e. absurd (eqb-false _ 4 (sym c.has_covering.ensures ∙ c.if-not-has_covering.true) e)

pub loop-b-init : goal.loop-b-init
loop-b-init c = (omega arith, columns_begin _ _ _ c.requires.empty)

pub fill_column-requires : goal.fill_column-requires
fill_column-requires c =
    let l = c.loop-b in
    record {
      limits = c.requires.limits;
      known = c.loop-b-test.true;
      counted = c.condition_counts-counts.ensures;
      room = omega arith;
      empty = λ a h. l.invariant.1.empty l.b a (omega arith) (omega arith);
    }

pub loop-b-preserved : goal.loop-b-preserved
loop-b-preserved c =
    let l = c.loop-b in
    let column = c.fill_column.ensures in
    (column.same ∙ l.invariant.0, columns_next _ _ _ _ _ _ _ l.invariant.1 (omega arith) column)

pub returns : goal.returns
returns c = λ e a b h k. c.loop-b.invariant.1.filled b a (omega arith) h
