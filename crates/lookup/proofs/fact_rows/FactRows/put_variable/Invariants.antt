-- The loop's invariant: the rows of the values before `value` are written.
use Rattle.lookup.specs.FactRows.{VariablePut}
use Rattle.lookup.proofs.fact_rows.FactRows.put_variable.Given as goal

abbrev pub invariant-loop-value : goal.invariant-loop-value
invariant-loop-value l = VariablePut l.task.conditions l.effects l.v l.value-counter l.task.actions l.fact l.initial.self.words l.self.words
