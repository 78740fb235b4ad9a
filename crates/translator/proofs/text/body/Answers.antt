-- The fields of the second part, one behind another.
use mathlib.Core.Path.{refl, ◌∙◌}
use lib.ListN.{take}
use Rattle.files.specs.Below.{bit}
use Rattle.digits.specs.Decimal.{ascii}
use Rattle.translator.specs.Clauses.{same}
use Rattle.translator.specs.Fields.{word}
use Rattle.translator.specs.Parts.{begun}
use Rattle.translator.specs.Text.{count}
use Rattle.translator.proofs.Calls.{handed, texts, field_shut, by_shut}
use Rattle.translator.proofs.CountReading.{count_most}
use Rattle.translator.proofs.ConditionsReading.{list_shut}
use Rattle.translator.proofs.OperatorsReading.{operators_shut}
use Rattle.translator.proofs.BodyReading.{ended_shut, body_up, body_read}
use Rattle.translator.proofs.text.body.Goals as goal

pub returns-in_err-word : goal.returns-in_err-word
unfolding ascii
returns-in_err-word c =
    let text = c.args.text.now in
    let task = c.args.task.now in
    let metric = bit c.args.metric in
    let begin = begun text.at metric task.variables in
    let e = c.in_err-word.field-0.0 in
    rw (handed _ _ c.from_residual.ensures.1)
    (body_up text.bytes.now begin _ _ _ _ _ _ _ task _ c.in_err-word.ensures.read (by_shut _ e (count 64) same) (list_shut _ e 0 (take task.variables task.sizes) task.goal 0 _) (field_shut _ e (word (ascii "end_goal\n"))) (by_shut _ e (count 512) same) (operators_shut _ e 0 (take task.variables task.sizes) metric task.costs task.conditions task.effects _ _ _) (ended_shut _ e) e refl refl refl refl)

pub returns-in_err-pairs : goal.returns-in_err-pairs
unfolding ascii
returns-in_err-pairs c =
    let text = c.args.text.now in
    let task = c.args.task.now in
    let metric = bit c.args.metric in
    let begin = begun text.at metric task.variables in
    let e = c.in_err-pairs.field-0.0 in
    let k1 = c.word.ensures.kept in
    rw (handed _ _ c.from_residual-in_err-pairs.ensures.1)
    (body_up text.bytes.now begin _ _ _ _ _ _ _ task _ c.in_ok-word.ensures.read (rw (texts k1) at c.in_err-pairs.ensures.read) (list_shut _ e 0 (take task.variables task.sizes) task.goal 0 _) (field_shut _ e (word (ascii "end_goal\n"))) (by_shut _ e (count 512) same) (operators_shut _ e 0 (take task.variables task.sizes) metric task.costs task.conditions task.effects _ _ _) (ended_shut _ e) e refl refl refl refl)

pub returns-in_err-conditions : goal.returns-in_err-conditions
unfolding ascii
returns-in_err-conditions c =
    let text = c.args.text.now in
    let task = c.args.task.now in
    let metric = bit c.args.metric in
    let begin = begun text.at metric task.variables in
    let e = c.in_err-conditions.field-0.0 in
    let k1 = c.word.ensures.kept in
    let k2 = c.count.ensures.kept ∙ k1 in
    rw (handed _ _ c.from_residual-in_err-conditions.ensures.1)
    (body_up text.bytes.now begin _ _ _ _ _ _ _ task _ c.in_ok-word.ensures.read (rw (texts k1) at c.in_ok-pairs.ensures.read) (rw (texts k2) at c.in_err-conditions.ensures.read) (field_shut _ e (word (ascii "end_goal\n"))) (by_shut _ e (count 512) same) (operators_shut _ e 0 (take task.variables task.sizes) metric task.costs task.conditions task.effects _ _ _) (ended_shut _ e) e refl refl refl refl)

pub returns-in_err-word-2 : goal.returns-in_err-word-2
unfolding ascii
returns-in_err-word-2 c =
    let text = c.args.text.now in
    let task = c.args.task.now in
    let metric = bit c.args.metric in
    let begin = begun text.at metric task.variables in
    let e = c.in_err-word-2.field-0.0 in
    let k1 = c.word.ensures.kept in
    let k2 = c.count.ensures.kept ∙ k1 in
    let k3 = c.conditions.ensures.kept ∙ k2 in
    rw (handed _ _ c.from_residual-in_err-word-2.ensures.1)
    (body_up text.bytes.now begin _ _ _ _ _ _ _ task _ c.in_ok-word.ensures.read (rw (texts k1) at c.in_ok-pairs.ensures.read) (rw (texts k2) at c.in_ok-conditions.ensures.read) (rw (texts k3) at c.in_err-word-2.ensures.read) (by_shut _ e (count 512) same) (operators_shut _ e 0 (take task.variables task.sizes) metric task.costs task.conditions task.effects _ _ _) (ended_shut _ e) e refl refl refl refl)

pub returns-in_err-task : goal.returns-in_err-task
unfolding ascii
returns-in_err-task c =
    let text = c.args.text.now in
    let task = c.args.task.now in
    let metric = bit c.args.metric in
    let begin = begun text.at metric task.variables in
    let e = c.in_err-task.field-0.0 in
    let k1 = c.word.ensures.kept in
    let k2 = c.count.ensures.kept ∙ k1 in
    let k3 = c.conditions.ensures.kept ∙ k2 in
    let k4 = c.word-2.ensures.kept ∙ k3 in
    rw (handed _ _ c.from_residual-in_err-task.ensures.1)
    (body_up text.bytes.now begin _ _ _ _ _ _ _ task _ c.in_ok-word.ensures.read (rw (texts k1) at c.in_ok-pairs.ensures.read) (rw (texts k2) at c.in_ok-conditions.ensures.read) (rw (texts k3) at c.in_ok-word-2.ensures.read) (rw (texts k4) at c.in_err-task.ensures.read) (operators_shut _ e 0 (take task.variables task.sizes) metric task.costs task.conditions task.effects _ _ _) (ended_shut _ e) e refl refl refl refl)

pub returns-in_err-operators : goal.returns-in_err-operators
unfolding ascii
returns-in_err-operators c =
    let text = c.args.text.now in
    let task = c.args.task.now in
    let metric = bit c.args.metric in
    let begin = begun text.at metric task.variables in
    let e = c.in_err-operators.field-0.0 in
    let k1 = c.word.ensures.kept in
    let k2 = c.count.ensures.kept ∙ k1 in
    let k3 = c.conditions.ensures.kept ∙ k2 in
    let k4 = c.word-2.ensures.kept ∙ k3 in
    let k5 = c.count-2.ensures.kept ∙ k4 in
    let rows = c.operators.ensures.rows in
    rw (handed _ _ c.from_residual-in_err-operators.ensures.1)
    (body_up text.bytes.now begin _ _ _ _ _ _ _ task _ c.in_ok-word.ensures.read (rw (texts k1) at c.in_ok-pairs.ensures.read) (rw (texts k2, ← rows.goal) at c.in_ok-conditions.ensures.read) (rw (texts k3) at c.in_ok-word-2.ensures.read) (rw (texts k4) at c.in_ok-task.ensures.read) (rw (texts k5) at c.in_err-operators.ensures.read) (ended_shut _ e) e refl rows.variables rows.sizes rows.starts)

pub returns : goal.returns
unfolding ascii
returns c =
    let text = c.args.text.now in
    let task = c.args.task.now in
    let metric = bit c.args.metric in
    let begin = begun text.at metric task.variables in
    let k1 = c.word.ensures.kept in
    let k2 = c.count.ensures.kept ∙ k1 in
    let k3 = c.conditions.ensures.kept ∙ k2 in
    let k4 = c.word-2.ensures.kept ∙ k3 in
    let k5 = c.count-2.ensures.kept ∙ k4 in
    let k6 = c.operators.ensures.kept ∙ k5 in
    let rows = c.operators.ensures.rows in
    body_read text.bytes.now begin _ _ _ _ _ _ _ task _ c.in_ok-word.ensures.read (rw (texts k1) at c.in_ok-pairs.ensures.read) (rw (texts k2, ← rows.goal) at c.in_ok-conditions.ensures.read) (rw (texts k3) at c.in_ok-word-2.ensures.read) (rw (texts k4) at c.in_ok-task.ensures.read) (rw (texts k5) at c.in_ok-operators.ensures.read) (rw (texts k6) at c.ended.ensures) rows.variables rows.sizes rows.starts rows.actions

pub operators-requires-clause-actions : goal.operators-requires-clause-actions
operators-requires-clause-actions c = count_most _ _ _ _ c.in_ok-task.ensures.read
