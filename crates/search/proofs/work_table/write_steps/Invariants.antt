-- The steps written so far begin the plan, and lead to the state.
use Rattle.distances.specs.Entries.{table_entry}
use Rattle.search.specs.ReadOff.{searched_of}
use Rattle.search.proofs.Stepping.{Stepping}
use Rattle.search.proofs.work_table.write_steps.Given as goal

abbrev pub invariant-loop-i : goal.invariant-loop-i
invariant-loop-i l =
    Stepping (table_entry l.table) l.initial.plan l.count (searched_of l.searched) l.origin l.searched.task.sizes l.searched.task.costs l.searched.rows.words l.searched.moves.actions l.state l.i l.plan
