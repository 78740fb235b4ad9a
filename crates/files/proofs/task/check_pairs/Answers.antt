use Rattle.files.proofs.Steps.{pairs_none, pairs_stop, pairs_next}
use Rattle.files.proofs.task.check_pairs.Goals as goal

pub returns-in_err-check_pair : goal.returns-in_err-check_pair
returns-in_err-check_pair c = search (pairs_stop, c.in_err-check_pair.ensures)

pub loop-i-preserved : goal.loop-i-preserved
loop-i-preserved c = search (pairs_next, c.in_ok-check_pair.ensures)

pub returns : goal.returns
returns c = search pairs_none
