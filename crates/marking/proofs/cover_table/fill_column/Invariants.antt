-- The loop's invariant: the column is filled up to `a`.
use Rattle.marking.specs.Dense.{could_cover_at}
use Rattle.marking.proofs.CoverTable.{ColumnTo}
use Rattle.marking.proofs.cover_table.fill_column.Given as goal

abbrev pub invariant-loop-a : goal.invariant-loop-a
invariant-loop-a l =
    let d = l.task in ColumnTo (could_cover_at d.costs d.conditions d.variables l.b) d.actions l.b l.a l.initial.could_cover l.could_cover
