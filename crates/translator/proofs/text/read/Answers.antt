-- The size, then both parts.
use mathlib.Core.Path.{refl}
use native.Mathlib.Omega.{arith}
use Rattle.translator.proofs.Calls.{handed, texts}
use Rattle.translator.proofs.TextReading.{text_up, text_long, text_short, body_shut, text_outcome, text_read}
use Rattle.translator.proofs.text.read.Goals as goal

pub returns-in_err-judged : goal.returns-in_err-judged
returns-in_err-judged c = rw (handed _ _ c.from_residual.ensures.1) (text_up _ c.in_err-judged.field-0.0 _ (text_long _ c.in_err-judged.field-0.0 c.in_err-judged.ensures))

pub invariant_of-text : goal.invariant_of-text
invariant_of-text c = record { limited = text_short _ c.in_ok-judged.ensures; within = omega arith }

pub returns-in_err-metric : goal.returns-in_err-metric
returns-in_err-metric c =
    let e = c.in_err-metric.field-0.0 in
    let before = c.args.task.now in
    let now = c.front.new.task in
    rw (handed _ _ c.from_residual-in_err-metric.ensures.1)
    (text_up _ e _
    (text_outcome _ _ _ before.sizes before.starts now now (text_short _ c.in_ok-judged.ensures) c.in_err-metric.ensures.read (body_shut _ e 0 0 now)))

pub returns : goal.returns
returns c =
    let before = c.args.task.now in
    let room = c.in_ok-metric.ensures.room in
    text_read _ _ _ before.sizes before.starts c.front.new.task c.body.new.task (text_short _ c.in_ok-judged.ensures)
    c.in_ok-metric.ensures.read (rw (texts c.front.ensures.kept) at c.body.ensures) room.0.sizes room.0.starts room.1 refl
