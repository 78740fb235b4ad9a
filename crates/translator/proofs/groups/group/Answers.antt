-- The fields of a group, one behind another.
use mathlib.Core.Path.{◌∙◌}
use Rattle.digits.specs.Decimal.{ascii}
use Rattle.translator.specs.Fields.{word}
use Rattle.translator.specs.Sas.{line_feed}
use Rattle.translator.specs.Text.{each, free_pair}
use Rattle.translator.proofs.Calls.{handed, texts, field_shut, after_shut, numbered_shut}
use Rattle.translator.proofs.GroupReading.{group_read}
use Rattle.translator.proofs.groups.group.Goals as goal

pub returns-in_err-word-clause-read : goal.returns-in_err-word-clause-read
unfolding ascii
returns-in_err-word-clause-read c =
    let text = c.args.text.now in
    let e = c.in_err-word.field-0.0 in
    rw (handed _ _ c.from_residual.ensures.1)
    (group_read text.bytes.now _ _ _ _ _ (record { limited = text.limited; within = text.within }) c.in_err-word.ensures.read (numbered_shut _ e line_feed) (after_shut _ e (each (free_pair line_feed) 0)) (field_shut _ e (word (ascii "end_mutex_group\n"))))

pub returns-in_err-count-clause-read : goal.returns-in_err-count-clause-read
unfolding ascii
returns-in_err-count-clause-read c =
    let text = c.args.text.now in
    let e = c.in_err-count.field-0.0 in
    rw (handed _ _ c.from_residual-in_err-count.ensures.1)
    (group_read text.bytes.now _ _ _ _ _ (record { limited = text.limited; within = text.within }) c.in_ok-word.ensures.read (rw (texts c.word.ensures.kept) at c.in_err-count.ensures.read)
    (after_shut _ e (each (free_pair line_feed) 0)) (field_shut _ e (word (ascii "end_mutex_group\n"))))

pub returns-in_err-pairs-clause-read : goal.returns-in_err-pairs-clause-read
unfolding ascii
returns-in_err-pairs-clause-read c =
    let text = c.args.text.now in
    let e = c.in_err-pairs.field-0.0 in
    let k = c.number.ensures.kept ∙ c.word.ensures.kept in
    rw (handed _ _ c.from_residual-in_err-pairs.ensures.1)
    (group_read text.bytes.now _ _ _ _ _ (record { limited = text.limited; within = text.within }) c.in_ok-word.ensures.read (rw (texts c.word.ensures.kept) at c.in_ok-count.ensures.read)
    (rw (texts k) at c.in_err-pairs.ensures.read) (field_shut _ e (word (ascii "end_mutex_group\n"))))

pub returns-clause-read : goal.returns-clause-read
unfolding ascii
returns-clause-read c =
    let text = c.args.text.now in
    let k = c.number.ensures.kept ∙ c.word.ensures.kept in
    group_read text.bytes.now _ _ _ _ _ (record { limited = text.limited; within = text.within }) c.in_ok-word.ensures.read (rw (texts c.word.ensures.kept) at c.in_ok-count.ensures.read)
    (rw (texts k) at c.in_ok-pairs.ensures.read) (rw (texts (c.pairs.ensures.kept ∙ k)) at c.word-2.ensures.read)
