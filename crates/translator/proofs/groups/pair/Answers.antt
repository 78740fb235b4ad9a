-- A number and a blank, then a number and a line feed.
use Rattle.translator.specs.Sas.{line_feed}
use Rattle.translator.proofs.Calls.{handed, texts, numbered_shut}
use Rattle.translator.proofs.GroupReading.{pair_read}
use Rattle.translator.proofs.groups.pair.Goals as goal

pub returns-in_err-number-clause-read : goal.returns-in_err-number-clause-read
returns-in_err-number-clause-read c =
    rw (handed _ _ c.from_residual.ensures.1) (pair_read _ _ _ _ c.in_err-number.ensures.read (numbered_shut _ c.in_err-number.field-0.0 line_feed))

pub returns-in_err-number-2-clause-read : goal.returns-in_err-number-2-clause-read
returns-in_err-number-2-clause-read c =
    rw (handed _ _ c.from_residual-in_err-number-2.ensures.1)
    (pair_read _ _ _ _ c.in_ok-number.ensures.read (rw (texts c.number.ensures.kept) at c.in_err-number-2.ensures.read))

pub returns-clause-read : goal.returns-clause-read
returns-clause-read c = pair_read _ _ _ _ c.in_ok-number.ensures.read (rw (texts c.number.ensures.kept) at c.in_ok-number-2.ensures.read)
