-- The tests in turn: given in the first row, in the second, and one of the task's.
use mathlib.Core.Path.{refl}
use native.Mathlib.Omega.{arith}
use Rattle.translator.proofs.Calls.{handed, judged_open, judged_stop, judged_shut, value_open, value_shut}
use Rattle.translator.proofs.RowReading.{variable_read_lem}
use Rattle.translator.proofs.lists.variable.Goals as goal

pub returns-in_err-variable-clause-read : goal.returns-in_err-variable-clause-read
returns-in_err-variable-clause-read c =
    let e = c.in_err-variable.field-0.0 in
    let at = c.number.new.self.at in
    rw (handed _ _ c.from_residual.ensures.1)
    (record { is = λ sizes given few rows. variable_read_lem _ _ _ c.in_err-variable.ensures.read sizes given c.args.first.now c.args.second.now c.args.base c.args.variables _ _ _ _ _ _ c.requires.few few rows refl refl (judged_shut e _ _ _) (judged_shut e _ _ _) (judged_shut e _ _ _) (value_shut e _) })

pub returns-in_err-judged-clause-read : goal.returns-in_err-judged-clause-read
returns-in_err-judged-clause-read c =
    let e = c.in_err-judged.field-0.0 in
    let at = c.number.new.self.at in
    rw (handed _ _ c.from_residual-in_err-judged.ensures.1)
    (record { is = λ sizes given few rows. variable_read_lem _ _ _ c.in_ok-variable.ensures.read sizes given c.args.first.now c.args.second.now c.args.base c.args.variables _ _ _ _ _ _ c.requires.few few rows c.is_new.ensures refl (judged_stop e at _ _ _ c.in_err-judged.ensures) (judged_shut e _ _ _) (judged_shut e _ _ _) (value_shut e _) })

pub returns-in_err-judged-2-clause-read : goal.returns-in_err-judged-2-clause-read
returns-in_err-judged-2-clause-read c =
    let e = c.in_err-judged-2.field-0.0 in
    let at = c.number.new.self.at in
    rw (handed _ _ c.from_residual-in_err-judged-2.ensures.1)
    (record { is = λ sizes given few rows. variable_read_lem _ _ _ c.in_ok-variable.ensures.read sizes given c.args.first.now c.args.second.now c.args.base c.args.variables _ _ _ _ _ _ c.requires.few few rows c.is_new.ensures c.is_new-2.ensures (judged_open at _ _ _ (omega arith) c.in_ok-judged.ensures) (judged_stop e at _ _ _ c.in_err-judged-2.ensures) (judged_shut e _ _ _) (value_shut e _) })

pub returns-in_err-judged-3-clause-read : goal.returns-in_err-judged-3-clause-read
returns-in_err-judged-3-clause-read c =
    let e = c.in_err-judged-3.field-0.0 in
    let at = c.number.new.self.at in
    rw (handed _ _ c.from_residual-in_err-judged-3.ensures.1)
    (record { is = λ sizes given few rows. variable_read_lem _ _ _ c.in_ok-variable.ensures.read sizes given c.args.first.now c.args.second.now c.args.base c.args.variables _ _ _ _ _ _ c.requires.few few rows c.is_new.ensures c.is_new-2.ensures (judged_open at _ _ _ (omega arith) c.in_ok-judged.ensures) (judged_open at _ _ _ (omega arith) c.in_ok-judged-2.ensures) (judged_stop e at _ _ _ c.in_err-judged-3.ensures) (value_shut e _) })

pub returns-clause-read : goal.returns-clause-read
returns-clause-read c =
    let at = c.number.new.self.at in
    record { is = λ sizes given few rows. variable_read_lem _ _ _ c.in_ok-variable.ensures.read sizes given c.args.first.now c.args.second.now c.args.base c.args.variables _ _ _ _ _ _ c.requires.few few rows c.is_new.ensures c.is_new-2.ensures (judged_open at _ _ _ (omega arith) c.in_ok-judged.ensures) (judged_open at _ _ _ (omega arith) c.in_ok-judged-2.ensures) (judged_open at _ _ _ (omega arith) c.in_ok-judged-3.ensures) (value_open _ _) }
