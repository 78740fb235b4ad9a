-- No action before the step's own is the one by which the state has its entry.
use Rattle.std.proofs.Common.{◌-◌}
use Rattle.distances.specs.Entries.{table_entry}
use Rattle.search.specs.ReadOff.{searched_of}
use Rattle.search.proofs.Leading.{Led}
use Rattle.search.proofs.work_table.first_step.Given as goal

abbrev pub invariant-loop-own : goal.invariant-loop-own
invariant-loop-own l = Led (table_entry l.table) (searched_of l.searched) l.state l.here l.searched.task.costs l.searched.moves.actions l.step

abbrev pub decreases-loop-own : goal.decreases-loop-own
decreases-loop-own l = l.searched.task.actions - l.step.action.0
