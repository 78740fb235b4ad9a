-- The loop's invariant: the rows of the variables before `v` are written, and the next has number `fact`.
use mathlib.Core.Path.{◌≡◌}
use Rattle.files.specs.Below.{sum_of}
use Rattle.lookup.specs.FactRows.{RowsByFact}
use Rattle.lookup.proofs.fact_rows.FactRows.fill_by.Given as goal

abbrev pub invariant-loop-v : goal.invariant-loop-v
invariant-loop-v l =
    record {
      rows : RowsByFact l.v l.task.actions l.task.sizes l.task.conditions l.effects l.self.words;
      fact_is : l.fact ≡ sum_of l.task.sizes l.v;
    }
