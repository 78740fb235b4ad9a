-- The loop's invariant: the words have the actions in the rows of the values before `v`.
use mathlib.Core.Path.{◌≡◌}
use lib.ListN.{length}
use Rattle.files.specs.Below.{sum_of}
use Rattle.lookup.specs.FactRows.{InAllRows}
use Rattle.lookup.proofs.fact_rows.FactRows.in_all.Given as goal

abbrev pub invariant-loop-v : goal.invariant-loop-v
invariant-loop-v l =
    record {
      all : InAllRows l.v l.task.sizes l.values l.self.words l.words;
      row_is : l.row ≡ sum_of l.task.sizes l.v;
      eight : length l.words ≡ 8;
    }
