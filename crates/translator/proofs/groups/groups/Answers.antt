-- A count, and as many groups.
use Rattle.translator.specs.Text.{each, group}
use Rattle.translator.proofs.Calls.{handed, texts, after_shut}
use Rattle.translator.proofs.GroupReading.{groups_read}
use Rattle.translator.proofs.groups.groups.Goals as goal

pub returns-in_err-count-clause-read : goal.returns-in_err-count-clause-read
returns-in_err-count-clause-read c =
    let text = c.args.text.now in
    rw (handed _ _ c.from_residual.ensures.1)
    (groups_read text.bytes.now _ _ _ (record { limited = text.limited; within = text.within }) c.in_err-count.ensures.read (after_shut _ c.in_err-count.field-0.0 (each group 0)))

pub returns-clause-read : goal.returns-clause-read
returns-clause-read c =
    let text = c.args.text.now in
    groups_read text.bytes.now _ _ _ (record { limited = text.limited; within = text.within }) c.in_ok-count.ensures.read (rw (texts c.number.ensures.kept) at c.groups_of.ensures.read)
