use Rattle.files.proofs.Decoding.{filled_next, filled_none}
use Rattle.files.proofs.decode.fill_row.Goals as goal

pub loop-i-preserved : goal.loop-i-preserved
loop-i-preserved c = search filled_next

pub returns : goal.returns
returns c = search filled_none
