-- The fields of a declaration, one behind another.
use mathlib.Core.Path.{◌∙◌}
use Rattle.digits.specs.Decimal.{ascii}
use Rattle.translator.specs.Clauses.{same}
use Rattle.translator.specs.Fields.{word, name}
use Rattle.translator.specs.Text.{size, name_lines}
use Rattle.translator.proofs.Calls.{handed, texts, field_shut, after_shut, by_shut, layer_shut, value_open, value_shut}
use Rattle.translator.proofs.VariableReading.{declaration_read}
use Rattle.translator.proofs.variables.declaration.Goals as goal

pub returns-in_err-word-clause-read : goal.returns-in_err-word-clause-read
unfolding ascii
returns-in_err-word-clause-read c =
    let e = c.in_err-word.field-0.0 in
    rw (handed _ _ c.from_residual.ensures.1)
    (declaration_read _ _ _ _ _ _ _ _ _ c.in_err-word.ensures.read (field_shut _ e name) (layer_shut _ e) (by_shut _ e size same) (after_shut _ e (name_lines 0)) (field_shut _ e (word (ascii "end_variable\n"))) (value_shut e _))

pub returns-in_err-name-clause-read : goal.returns-in_err-name-clause-read
unfolding ascii
returns-in_err-name-clause-read c =
    let e = c.in_err-name.field-0.0 in
    let k1 = c.word.ensures.kept in
    rw (handed _ _ c.from_residual-in_err-name.ensures.1)
    (declaration_read _ _ _ _ _ _ _ _ _ c.in_ok-word.ensures.read (rw (texts k1) at c.in_err-name.ensures.read) (layer_shut _ e) (by_shut _ e size same) (after_shut _ e (name_lines 0)) (field_shut _ e (word (ascii "end_variable\n"))) (value_shut e _))

pub returns-in_err-layer-clause-read : goal.returns-in_err-layer-clause-read
unfolding ascii
returns-in_err-layer-clause-read c =
    let e = c.in_err-layer.field-0.0 in
    let k1 = c.word.ensures.kept in
    let k2 = c.name.ensures.kept ∙ k1 in
    rw (handed _ _ c.from_residual-in_err-layer.ensures.1)
    (declaration_read _ _ _ _ _ _ _ _ _ c.in_ok-word.ensures.read (rw (texts k1) at c.in_ok-name.ensures.read) (rw (texts k2) at c.in_err-layer.ensures.read) (by_shut _ e size same) (after_shut _ e (name_lines 0)) (field_shut _ e (word (ascii "end_variable\n"))) (value_shut e _))

pub returns-in_err-size-clause-read : goal.returns-in_err-size-clause-read
unfolding ascii
returns-in_err-size-clause-read c =
    let e = c.in_err-size.field-0.0 in
    let k1 = c.word.ensures.kept in
    let k2 = c.name.ensures.kept ∙ k1 in
    let k3 = c.layer.ensures.kept ∙ k2 in
    rw (handed _ _ c.from_residual-in_err-size.ensures.1)
    (declaration_read _ _ _ _ _ _ _ _ _ c.in_ok-word.ensures.read (rw (texts k1) at c.in_ok-name.ensures.read) (rw (texts k2) at c.in_ok-layer.ensures.read) (rw (texts k3) at c.in_err-size.ensures.read) (after_shut _ e (name_lines 0)) (field_shut _ e (word (ascii "end_variable\n"))) (value_shut e _))

pub returns-in_err-names-clause-read : goal.returns-in_err-names-clause-read
unfolding ascii
returns-in_err-names-clause-read c =
    let e = c.in_err-names.field-0.0 in
    let k1 = c.word.ensures.kept in
    let k2 = c.name.ensures.kept ∙ k1 in
    let k3 = c.layer.ensures.kept ∙ k2 in
    let k4 = c.size.ensures.kept ∙ k3 in
    rw (handed _ _ c.from_residual-in_err-names.ensures.1)
    (declaration_read _ _ _ _ _ _ _ _ _ c.in_ok-word.ensures.read (rw (texts k1) at c.in_ok-name.ensures.read) (rw (texts k2) at c.in_ok-layer.ensures.read) (rw (texts k3) at c.in_ok-size.ensures.read) (rw (texts k4) at c.in_err-names.ensures.read) (field_shut _ e (word (ascii "end_variable\n"))) (value_shut e _))

pub returns-in_err-word-2-clause-read : goal.returns-in_err-word-2-clause-read
unfolding ascii
returns-in_err-word-2-clause-read c =
    let e = c.in_err-word-2.field-0.0 in
    let k1 = c.word.ensures.kept in
    let k2 = c.name.ensures.kept ∙ k1 in
    let k3 = c.layer.ensures.kept ∙ k2 in
    let k4 = c.size.ensures.kept ∙ k3 in
    let k5 = c.names.ensures.kept ∙ k4 in
    rw (handed _ _ c.from_residual-in_err-word-2.ensures.1)
    (declaration_read _ _ _ _ _ _ _ _ _ c.in_ok-word.ensures.read (rw (texts k1) at c.in_ok-name.ensures.read) (rw (texts k2) at c.in_ok-layer.ensures.read) (rw (texts k3) at c.in_ok-size.ensures.read) (rw (texts k4) at c.in_ok-names.ensures.read) (rw (texts k5) at c.in_err-word-2.ensures.read) (value_shut e _))

pub returns-clause-read : goal.returns-clause-read
unfolding ascii
returns-clause-read c =
    let k1 = c.word.ensures.kept in
    let k2 = c.name.ensures.kept ∙ k1 in
    let k3 = c.layer.ensures.kept ∙ k2 in
    let k4 = c.size.ensures.kept ∙ k3 in
    let k5 = c.names.ensures.kept ∙ k4 in
    let k6 = c.word-2.ensures.kept ∙ k5 in
    declaration_read _ _ _ _ _ _ _ _ _ c.in_ok-word.ensures.read (rw (texts k1) at c.in_ok-name.ensures.read) (rw (texts k2) at c.in_ok-layer.ensures.read) (rw (texts k3) at c.in_ok-size.ensures.read) (rw (texts k4) at c.in_ok-names.ensures.read) (rw (texts k5) at c.in_ok-word-2.ensures.read) (value_open _ _)
