use Rattle.files.proofs.Steps.{variables_none, variables_stop, variables_next}
use Rattle.files.proofs.task.check_variables.Goals as goal

pub returns-in_err-check_variable : goal.returns-in_err-check_variable
returns-in_err-check_variable c = search (variables_stop, c.in_err-check_variable.ensures)

pub loop-i-preserved : goal.loop-i-preserved
loop-i-preserved c = search (variables_next, c.in_ok-check_variable.ensures)

pub returns : goal.returns
returns c = search variables_none
