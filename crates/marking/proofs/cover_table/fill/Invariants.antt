-- The loop's invariant: the columns of the actions before `b` are filled, and the others empty.
use Rattle.std.proofs.Common.{◌≡◌, length}
use Rattle.marking.specs.Dense.{could_cover_at}
use Rattle.marking.proofs.CoverTable.{ColumnsTo}
use Rattle.marking.proofs.cover_table.fill.Given as goal

abbrev pub invariant-loop-b : goal.invariant-loop-b
invariant-loop-b l =
    let d = l.task in
    (length l.could_cover ≡ 4096) × ColumnsTo (could_cover_at d.costs d.conditions d.variables) d.actions l.b l.could_cover
