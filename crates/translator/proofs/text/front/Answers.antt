-- The fields of the first part, one behind another.
use mathlib.Core.Path.{ap, ◌∙◌}
use native.Mathlib.Omega.{arith}
use borrow.Author.Rules.{rules}
use Rattle.digits.specs.Decimal.{ascii}
use Rattle.translator.specs.Clauses.{same}
use Rattle.translator.specs.Fields.{word}
use Rattle.translator.specs.Format.{cursor_at}
use Rattle.translator.specs.Text.{count}
use Rattle.translator.proofs.Calls.{handed, texts, field_shut, by_shut}
use Rattle.translator.proofs.CountReading.{count_most}
use Rattle.translator.proofs.FrontReading.{metric_shut, groups_shut, declarations_shut, starts_shut, front_read, front_up}
use Rattle.translator.proofs.text.front.Goals as goal

pub returns-in_err-word-clause-read : goal.returns-in_err-word-clause-read
unfolding ascii
returns-in_err-word-clause-read c =
    let text = c.args.text.now in
    let task = c.args.task.now in
    let e = c.in_err-word.field-0.0 in
    rw (handed _ _ c.from_residual.ensures.1)
    (front_up text.bytes.now e task.sizes task.starts _ _
    (front_read text.bytes.now (cursor_at text.at) _ _ _ _ _ _ _ _ task.sizes _ task.starts _ (ap cursor_at c.requires) c.in_err-word.ensures.read (metric_shut _ e) (field_shut _ e (word (ascii "end_metric\n"))) (by_shut _ e (count 64) same) (declarations_shut _ e 0 task.sizes task.sizes) (groups_shut _ e) (field_shut _ e (word (ascii "begin_state\n"))) (starts_shut _ e _ _ task.starts task.starts) (search rules)).cursor)

pub returns-in_err-metric-clause-read : goal.returns-in_err-metric-clause-read
unfolding ascii
returns-in_err-metric-clause-read c =
    let text = c.args.text.now in
    let task = c.args.task.now in
    let e = c.in_err-metric.field-0.0 in
    let k1 = c.word.ensures.kept in
    rw (handed _ _ c.from_residual-in_err-metric.ensures.1)
    (front_up text.bytes.now e task.sizes task.starts _ _
    (front_read text.bytes.now (cursor_at text.at) _ _ _ _ _ _ _ _ task.sizes _ task.starts _ (ap cursor_at c.requires) c.in_ok-word.ensures.read (rw (texts k1) at c.in_err-metric.ensures.read) (field_shut _ e (word (ascii "end_metric\n"))) (by_shut _ e (count 64) same) (declarations_shut _ e 0 task.sizes task.sizes) (groups_shut _ e) (field_shut _ e (word (ascii "begin_state\n"))) (starts_shut _ e _ _ task.starts task.starts) (search rules)).cursor)

pub returns-in_err-word-2-clause-read : goal.returns-in_err-word-2-clause-read
unfolding ascii
returns-in_err-word-2-clause-read c =
    let text = c.args.text.now in
    let task = c.args.task.now in
    let e = c.in_err-word-2.field-0.0 in
    let k1 = c.word.ensures.kept in
    let k2 = c.metric.ensures.kept ∙ k1 in
    rw (handed _ _ c.from_residual-in_err-word-2.ensures.1)
    (front_up text.bytes.now e task.sizes task.starts _ _
    (front_read text.bytes.now (cursor_at text.at) _ _ _ _ _ _ _ _ task.sizes _ task.starts _ (ap cursor_at c.requires) c.in_ok-word.ensures.read (rw (texts k1) at c.in_ok-metric.ensures.read) (rw (texts k2) at c.in_err-word-2.ensures.read) (by_shut _ e (count 64) same) (declarations_shut _ e 0 task.sizes task.sizes) (groups_shut _ e) (field_shut _ e (word (ascii "begin_state\n"))) (starts_shut _ e _ _ task.starts task.starts) (search rules)).cursor)

pub returns-in_err-task-clause-read : goal.returns-in_err-task-clause-read
unfolding ascii
returns-in_err-task-clause-read c =
    let text = c.args.text.now in
    let task = c.args.task.now in
    let e = c.in_err-task.field-0.0 in
    let k1 = c.word.ensures.kept in
    let k2 = c.metric.ensures.kept ∙ k1 in
    let k3 = c.word-2.ensures.kept ∙ k2 in
    rw (handed _ _ c.from_residual-in_err-task.ensures.1)
    (front_up text.bytes.now e task.sizes task.starts _ _
    (front_read text.bytes.now (cursor_at text.at) _ _ _ _ _ _ _ _ task.sizes _ task.starts _ (ap cursor_at c.requires) c.in_ok-word.ensures.read (rw (texts k1) at c.in_ok-metric.ensures.read) (rw (texts k2) at c.in_ok-word-2.ensures.read) (rw (texts k3) at c.in_err-task.ensures.read) (declarations_shut _ e 0 task.sizes task.sizes) (groups_shut _ e) (field_shut _ e (word (ascii "begin_state\n"))) (starts_shut _ e _ _ task.starts task.starts) (search rules)).cursor)

pub returns-in_err-declarations-clause-read : goal.returns-in_err-declarations-clause-read
unfolding ascii
returns-in_err-declarations-clause-read c =
    let text = c.args.text.now in
    let task = c.args.task.now in
    let e = c.in_err-declarations.field-0.0 in
    let k1 = c.word.ensures.kept in
    let k2 = c.metric.ensures.kept ∙ k1 in
    let k3 = c.word-2.ensures.kept ∙ k2 in
    let k4 = c.count.ensures.kept ∙ k3 in
    rw (handed _ _ c.from_residual-in_err-declarations.ensures.1)
    (front_up text.bytes.now e task.sizes task.starts _ _
    (front_read text.bytes.now (cursor_at text.at) _ _ _ _ _ _ _ _ task.sizes _ task.starts _ (ap cursor_at c.requires) c.in_ok-word.ensures.read (rw (texts k1) at c.in_ok-metric.ensures.read) (rw (texts k2) at c.in_ok-word-2.ensures.read) (rw (texts k3) at c.in_ok-task.ensures.read) (rw (texts k4) at c.in_err-declarations.ensures.read) (groups_shut _ e) (field_shut _ e (word (ascii "begin_state\n"))) (starts_shut _ e _ _ task.starts task.starts) (search rules)).cursor)

pub returns-in_err-groups-clause-read : goal.returns-in_err-groups-clause-read
unfolding ascii
returns-in_err-groups-clause-read c =
    let text = c.args.text.now in
    let task = c.args.task.now in
    let e = c.in_err-groups.field-0.0 in
    let k1 = c.word.ensures.kept in
    let k2 = c.metric.ensures.kept ∙ k1 in
    let k3 = c.word-2.ensures.kept ∙ k2 in
    let k4 = c.count.ensures.kept ∙ k3 in
    let k5 = c.declarations.ensures.kept ∙ k4 in
    rw (handed _ _ c.from_residual-in_err-groups.ensures.1)
    (front_up text.bytes.now e task.sizes task.starts _ _
    (front_read text.bytes.now (cursor_at text.at) _ _ _ _ _ _ _ _ task.sizes _ task.starts _ (ap cursor_at c.requires) c.in_ok-word.ensures.read (rw (texts k1) at c.in_ok-metric.ensures.read) (rw (texts k2) at c.in_ok-word-2.ensures.read) (rw (texts k3) at c.in_ok-task.ensures.read) (rw (texts k4) at c.in_ok-declarations.ensures.read) (rw (texts k5) at c.in_err-groups.ensures.read) (field_shut _ e (word (ascii "begin_state\n"))) (starts_shut _ e _ _ task.starts task.starts) (search rules)).cursor)

pub returns-in_err-word-3-clause-read : goal.returns-in_err-word-3-clause-read
unfolding ascii
returns-in_err-word-3-clause-read c =
    let text = c.args.text.now in
    let task = c.args.task.now in
    let e = c.in_err-word-3.field-0.0 in
    let k1 = c.word.ensures.kept in
    let k2 = c.metric.ensures.kept ∙ k1 in
    let k3 = c.word-2.ensures.kept ∙ k2 in
    let k4 = c.count.ensures.kept ∙ k3 in
    let k5 = c.declarations.ensures.kept ∙ k4 in
    let k6 = c.groups.ensures.kept ∙ k5 in
    rw (handed _ _ c.from_residual-in_err-word-3.ensures.1)
    (front_up text.bytes.now e task.sizes task.starts _ _
    (front_read text.bytes.now (cursor_at text.at) _ _ _ _ _ _ _ _ task.sizes _ task.starts _ (ap cursor_at c.requires) c.in_ok-word.ensures.read (rw (texts k1) at c.in_ok-metric.ensures.read) (rw (texts k2) at c.in_ok-word-2.ensures.read) (rw (texts k3) at c.in_ok-task.ensures.read) (rw (texts k4) at c.in_ok-declarations.ensures.read) (rw (texts k5) at c.in_ok-groups.ensures.read) (rw (texts k6) at c.in_err-word-3.ensures.read) (starts_shut _ e _ _ task.starts task.starts) (search rules)).cursor)

pub returns-in_err-starts-clause-read : goal.returns-in_err-starts-clause-read
unfolding ascii
returns-in_err-starts-clause-read c =
    let text = c.args.text.now in
    let task = c.args.task.now in
    let e = c.in_err-starts.field-0.0 in
    let k1 = c.word.ensures.kept in
    let k2 = c.metric.ensures.kept ∙ k1 in
    let k3 = c.word-2.ensures.kept ∙ k2 in
    let k4 = c.count.ensures.kept ∙ k3 in
    let k5 = c.declarations.ensures.kept ∙ k4 in
    let k6 = c.groups.ensures.kept ∙ k5 in
    let k7 = c.word-3.ensures.kept ∙ k6 in
    rw (handed _ _ c.from_residual-in_err-starts.ensures.1)
    (front_up text.bytes.now e task.sizes task.starts _ _
    (front_read text.bytes.now (cursor_at text.at) _ _ _ _ _ _ _ _ task.sizes _ task.starts _ (ap cursor_at c.requires) c.in_ok-word.ensures.read (rw (texts k1) at c.in_ok-metric.ensures.read) (rw (texts k2) at c.in_ok-word-2.ensures.read) (rw (texts k3) at c.in_ok-task.ensures.read) (rw (texts k4) at c.in_ok-declarations.ensures.read) (rw (texts k5) at c.in_ok-groups.ensures.read) (rw (texts k6) at c.in_ok-word-3.ensures.read) (rw (texts k7) at c.in_err-starts.ensures.read) (search rules)).cursor)

pub returns-clause-read : goal.returns-clause-read
unfolding ascii
returns-clause-read c =
    let text = c.args.text.now in
    let task = c.args.task.now in
    let k1 = c.word.ensures.kept in
    let k2 = c.metric.ensures.kept ∙ k1 in
    let k3 = c.word-2.ensures.kept ∙ k2 in
    let k4 = c.count.ensures.kept ∙ k3 in
    let k5 = c.declarations.ensures.kept ∙ k4 in
    let k6 = c.groups.ensures.kept ∙ k5 in
    let k7 = c.word-3.ensures.kept ∙ k6 in
    let k8 = c.starts.ensures.kept ∙ k7 in
    front_read text.bytes.now (cursor_at text.at) _ _ _ _ _ _ _ _ task.sizes _ task.starts _ (ap cursor_at c.requires) c.in_ok-word.ensures.read (rw (texts k1) at c.in_ok-metric.ensures.read) (rw (texts k2) at c.in_ok-word-2.ensures.read) (rw (texts k3) at c.in_ok-task.ensures.read) (rw (texts k4) at c.in_ok-declarations.ensures.read) (rw (texts k5) at c.in_ok-groups.ensures.read) (rw (texts k6) at c.in_ok-word-3.ensures.read) (rw (texts k7) at c.in_ok-starts.ensures.read) (search rules)

pub returns-clause-room : goal.returns-clause-room
returns-clause-room c = (
  record { sizes = omega arith; starts = omega arith; goal = omega arith; costs = omega arith; conditions = omega arith; effects = omega arith },
  record { sizes = omega arith; starts = omega arith; goal = omega arith; costs = omega arith; conditions = omega arith; effects = omega arith },
)

pub declarations-requires : goal.declarations-requires
declarations-requires c = record { few = count_most _ _ _ _ c.in_ok-task.ensures.read; room = search rules }

pub starts-requires : goal.starts-requires
starts-requires c = record { inside = record { few = count_most _ _ _ _ c.in_ok-task.ensures.read; room = search rules }; sizes_room = search rules }
