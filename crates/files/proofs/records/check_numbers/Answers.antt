use Rattle.files.proofs.Steps.{numbers_none, numbers_stop, numbers_next}
use Rattle.files.proofs.records.check_numbers.Goals as goal

pub returns-then-limit-u16_at : goal.returns-then-limit-u16_at
returns-then-limit-u16_at c = search numbers_stop

pub loop-i-preserved : goal.loop-i-preserved
loop-i-preserved c = search numbers_next

pub returns : goal.returns
returns c = search numbers_none
