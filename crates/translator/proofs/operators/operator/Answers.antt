-- The fields of an operator, one behind another; then its cost is stored.
use Prim.Native.Nat.{◌*◌}
use mathlib.Core.Path.{refl, ◌∙◌}
use borrow.Author.Rules.{rules}
use lib.ListN.{take}
use Rattle.files.specs.Below.{bit}
use Rattle.digits.specs.Decimal.{ascii}
use Rattle.translator.specs.Clauses.{same}
use Rattle.translator.specs.Fields.{word, name}
use Rattle.translator.specs.Format.{cursor_at}
use Rattle.translator.specs.OperatorContracts.{cost_by}
use Rattle.translator.specs.Text.{count}
use Rattle.translator.proofs.Calls.{handed, texts, closed, field_shut, by_shut}
use Rattle.translator.proofs.ConditionsReading.{list_shut}
use Rattle.translator.proofs.EffectsReading.{effects_shut}
use Rattle.translator.proofs.OperatorReading.{cost_most, operator_read, operator_up}
use Rattle.translator.proofs.operators.operator.Goals as goal

pub returns-in_err-word-clause-read : goal.returns-in_err-word-clause-read
unfolding ascii
returns-in_err-word-clause-read c =
    let text = c.args.text.now in
    let task = c.args.task.now in
    let metric = bit c.args.metric in
    let sizes = take task.variables task.sizes in
    let e = c.in_err-word.field-0.0 in
    rw (handed _ _ c.from_residual.ensures.1)
    (operator_up text.bytes.now (cursor_at text.at) sizes metric task.costs task.conditions task.effects c.args.a _ _ _ _
    (operator_read text.bytes.now (cursor_at text.at) _ _ _ _ _ _ _ _ sizes metric c.args.a (64 * c.args.a) task.costs task.conditions task.effects _ _ _ c.in_err-word.ensures.read (field_shut _ e name) (by_shut _ e (count 64) same) (list_shut _ e 0 sizes task.conditions (64 * c.args.a) task.conditions) (by_shut _ e (count 64) same) (effects_shut _ e 0 sizes _ task.effects (64 * c.args.a) task.conditions task.effects) (by_shut _ e (count 1000000) (cost_by metric)) (field_shut _ e (word (ascii "end_operator\n"))) refl).cursor (closed e))

pub returns-in_err-name-clause-read : goal.returns-in_err-name-clause-read
unfolding ascii
returns-in_err-name-clause-read c =
    let text = c.args.text.now in
    let task = c.args.task.now in
    let metric = bit c.args.metric in
    let sizes = take task.variables task.sizes in
    let e = c.in_err-name.field-0.0 in
    let k1 = c.word.ensures.kept in
    rw (handed _ _ c.from_residual-in_err-name.ensures.1)
    (operator_up text.bytes.now (cursor_at text.at) sizes metric task.costs task.conditions task.effects c.args.a _ _ _ _
    (operator_read text.bytes.now (cursor_at text.at) _ _ _ _ _ _ _ _ sizes metric c.args.a (64 * c.args.a) task.costs task.conditions task.effects _ _ _ c.in_ok-word.ensures.read (rw (texts k1) at c.in_err-name.ensures.read) (by_shut _ e (count 64) same) (list_shut _ e 0 sizes task.conditions (64 * c.args.a) task.conditions) (by_shut _ e (count 64) same) (effects_shut _ e 0 sizes _ task.effects (64 * c.args.a) task.conditions task.effects) (by_shut _ e (count 1000000) (cost_by metric)) (field_shut _ e (word (ascii "end_operator\n"))) refl).cursor (closed e))

pub returns-in_err-pairs-clause-read : goal.returns-in_err-pairs-clause-read
unfolding ascii
returns-in_err-pairs-clause-read c =
    let text = c.args.text.now in
    let task = c.args.task.now in
    let metric = bit c.args.metric in
    let sizes = take task.variables task.sizes in
    let e = c.in_err-pairs.field-0.0 in
    let k1 = c.word.ensures.kept in
    let k2 = c.name.ensures.kept ∙ k1 in
    rw (handed _ _ c.from_residual-in_err-pairs.ensures.1)
    (operator_up text.bytes.now (cursor_at text.at) sizes metric task.costs task.conditions task.effects c.args.a _ _ _ _
    (operator_read text.bytes.now (cursor_at text.at) _ _ _ _ _ _ _ _ sizes metric c.args.a (64 * c.args.a) task.costs task.conditions task.effects _ _ _ c.in_ok-word.ensures.read (rw (texts k1) at c.in_ok-name.ensures.read) (rw (texts k2) at c.in_err-pairs.ensures.read) (list_shut _ e 0 sizes task.conditions (64 * c.args.a) task.conditions) (by_shut _ e (count 64) same) (effects_shut _ e 0 sizes _ task.effects (64 * c.args.a) task.conditions task.effects) (by_shut _ e (count 1000000) (cost_by metric)) (field_shut _ e (word (ascii "end_operator\n"))) refl).cursor (closed e))

pub returns-in_err-conditions-clause-read : goal.returns-in_err-conditions-clause-read
unfolding ascii
returns-in_err-conditions-clause-read c =
    let text = c.args.text.now in
    let task = c.args.task.now in
    let metric = bit c.args.metric in
    let sizes = take task.variables task.sizes in
    let e = c.in_err-conditions.field-0.0 in
    let k1 = c.word.ensures.kept in
    let k2 = c.name.ensures.kept ∙ k1 in
    let k3 = c.count.ensures.kept ∙ k2 in
    rw (handed _ _ c.from_residual-in_err-conditions.ensures.1)
    (operator_up text.bytes.now (cursor_at text.at) sizes metric task.costs task.conditions task.effects c.args.a _ _ _ _
    (operator_read text.bytes.now (cursor_at text.at) _ _ _ _ _ _ _ _ sizes metric c.args.a (64 * c.args.a) task.costs task.conditions task.effects _ _ _ c.in_ok-word.ensures.read (rw (texts k1) at c.in_ok-name.ensures.read) (rw (texts k2) at c.in_ok-pairs.ensures.read) (rw (texts k3) at c.in_err-conditions.ensures.read) (by_shut _ e (count 64) same) (effects_shut _ e 0 sizes _ task.effects (64 * c.args.a) task.conditions task.effects) (by_shut _ e (count 1000000) (cost_by metric)) (field_shut _ e (word (ascii "end_operator\n"))) refl).cursor (closed e))

pub returns-in_err-changes-clause-read : goal.returns-in_err-changes-clause-read
unfolding ascii
returns-in_err-changes-clause-read c =
    let text = c.args.text.now in
    let task = c.args.task.now in
    let metric = bit c.args.metric in
    let sizes = take task.variables task.sizes in
    let e = c.in_err-changes.field-0.0 in
    let k1 = c.word.ensures.kept in
    let k2 = c.name.ensures.kept ∙ k1 in
    let k3 = c.count.ensures.kept ∙ k2 in
    let k4 = c.conditions.ensures.kept ∙ k3 in
    rw (handed _ _ c.from_residual-in_err-changes.ensures.1)
    (operator_up text.bytes.now (cursor_at text.at) sizes metric task.costs task.conditions task.effects c.args.a _ _ _ _
    (operator_read text.bytes.now (cursor_at text.at) _ _ _ _ _ _ _ _ sizes metric c.args.a (64 * c.args.a) task.costs task.conditions task.effects _ _ _ c.in_ok-word.ensures.read (rw (texts k1) at c.in_ok-name.ensures.read) (rw (texts k2) at c.in_ok-pairs.ensures.read) (rw (texts k3) at c.in_ok-conditions.ensures.read) (rw (texts k4) at c.in_err-changes.ensures.read) (effects_shut _ e 0 sizes _ task.effects (64 * c.args.a) task.conditions task.effects) (by_shut _ e (count 1000000) (cost_by metric)) (field_shut _ e (word (ascii "end_operator\n"))) refl).cursor (closed e))

pub returns-in_err-effects_of-clause-read : goal.returns-in_err-effects_of-clause-read
unfolding ascii
returns-in_err-effects_of-clause-read c =
    let text = c.args.text.now in
    let task = c.args.task.now in
    let metric = bit c.args.metric in
    let sizes = take task.variables task.sizes in
    let e = c.in_err-effects_of.field-0.0 in
    let k1 = c.word.ensures.kept in
    let k2 = c.name.ensures.kept ∙ k1 in
    let k3 = c.count.ensures.kept ∙ k2 in
    let k4 = c.conditions.ensures.kept ∙ k3 in
    let k5 = c.count-2.ensures.kept ∙ k4 in
    rw (handed _ _ c.from_residual-in_err-effects_of.ensures.1)
    (operator_up text.bytes.now (cursor_at text.at) sizes metric task.costs task.conditions task.effects c.args.a _ _ _ _
    (operator_read text.bytes.now (cursor_at text.at) _ _ _ _ _ _ _ _ sizes metric c.args.a (64 * c.args.a) task.costs task.conditions task.effects _ _ _ c.in_ok-word.ensures.read (rw (texts k1) at c.in_ok-name.ensures.read) (rw (texts k2) at c.in_ok-pairs.ensures.read) (rw (texts k3) at c.in_ok-conditions.ensures.read) (rw (texts k4) at c.in_ok-changes.ensures.read) (rw (texts k5) at c.in_err-effects_of.ensures.read) (by_shut _ e (count 1000000) (cost_by metric)) (field_shut _ e (word (ascii "end_operator\n"))) refl).cursor (closed e))

pub returns-in_err-task-clause-read : goal.returns-in_err-task-clause-read
unfolding ascii
returns-in_err-task-clause-read c =
    let text = c.args.text.now in
    let task = c.args.task.now in
    let metric = bit c.args.metric in
    let sizes = take task.variables task.sizes in
    let e = c.in_err-task.field-0.0 in
    let k1 = c.word.ensures.kept in
    let k2 = c.name.ensures.kept ∙ k1 in
    let k3 = c.count.ensures.kept ∙ k2 in
    let k4 = c.conditions.ensures.kept ∙ k3 in
    let k5 = c.count-2.ensures.kept ∙ k4 in
    let k6 = c.effects_of.ensures.kept ∙ k5 in
    rw (handed _ _ c.from_residual-in_err-task.ensures.1)
    (operator_up text.bytes.now (cursor_at text.at) sizes metric task.costs task.conditions task.effects c.args.a _ _ _ _
    (operator_read text.bytes.now (cursor_at text.at) _ _ _ _ _ _ _ _ sizes metric c.args.a (64 * c.args.a) task.costs task.conditions task.effects _ _ _ c.in_ok-word.ensures.read (rw (texts k1) at c.in_ok-name.ensures.read) (rw (texts k2) at c.in_ok-pairs.ensures.read) (rw (texts k3) at c.in_ok-conditions.ensures.read) (rw (texts k4) at c.in_ok-changes.ensures.read) (rw (texts k5) at c.in_ok-effects_of.ensures.read) (rw (texts k6) at c.in_err-task.ensures.read) (field_shut _ e (word (ascii "end_operator\n"))) refl).cursor (closed e))

pub returns-clause-read : goal.returns-clause-read
unfolding ascii
returns-clause-read c =
    let text = c.args.text.now in
    let task = c.args.task.now in
    let metric = bit c.args.metric in
    let sizes = take task.variables task.sizes in
    let k1 = c.word.ensures.kept in
    let k2 = c.name.ensures.kept ∙ k1 in
    let k3 = c.count.ensures.kept ∙ k2 in
    let k4 = c.conditions.ensures.kept ∙ k3 in
    let k5 = c.count-2.ensures.kept ∙ k4 in
    let k6 = c.effects_of.ensures.kept ∙ k5 in
    let k7 = c.cost.ensures.kept ∙ k6 in
    operator_read text.bytes.now (cursor_at text.at) _ _ _ _ _ _ _ _ sizes metric c.args.a (64 * c.args.a) task.costs task.conditions task.effects _ _ _ c.in_ok-word.ensures.read (rw (texts k1) at c.in_ok-name.ensures.read) (rw (texts k2) at c.in_ok-pairs.ensures.read) (rw (texts k3) at c.in_ok-conditions.ensures.read) (rw (texts k4) at c.in_ok-changes.ensures.read) (rw (texts k5) at c.in_ok-effects_of.ensures.read) (rw (texts k6) at c.in_ok-task.ensures.read) (rw (texts k7) at c.word-2.ensures.read) refl

pub overflow_cast-task : goal.overflow_cast-task
overflow_cast-task c = let few = cost_most _ _ _ _ c.in_ok-task.ensures.read in search rules
