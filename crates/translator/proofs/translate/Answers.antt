-- The text is read into arrays, the stages are tested in order, and the task that the arrays hold is written.
use mathlib.Core.Path.{refl}
use Rattle.translator.proofs.Calls.{handed}
use Rattle.files.proofs.Guards.{refused_number}
use Rattle.translator.proofs.TranslateLaws.{from_text, from_sign, from_room, all_done, translate_refused, translate_done}
use Rattle.translator.proofs.translate.Goals as goal

pub returns-in_err-read : goal.returns-in_err-read
returns-in_err-read c =
    let e = c.in_err-read.field-0.0 in
    rw (handed _ _ c.from_residual.ensures.1)
    (translate_refused c.args.text.now c.args.signer c.args.file.now _ c.read.new.task _ _ c.in_err-read.ensures refl (from_text e _) _ (refused_number e) refl)

pub returns-then-signer-lt1 : goal.returns-then-signer-lt1
returns-then-signer-lt1 c =
    let e = c.at.result in
    translate_refused c.args.text.now c.args.signer c.args.file.now _ c.read.new.task _ _ c.in_ok-read.ensures refl (from_sign _ _ _ e c.if-signer-lt1.true c.at.ensures) _ (refused_number e) refl

pub returns-then-file-needed : goal.returns-then-file-needed
returns-then-file-needed c =
    let e = c.at-then-file-needed.result in
    translate_refused c.args.text.now c.args.signer c.args.file.now _ c.read.new.task _ _ c.in_ok-read.ensures c.file_length-needed.ensures.is (from_room _ _ _ e c.if-signer-lt1.false c.if-file-needed.true c.at-then-file-needed.ensures) _ (refused_number e) refl

pub returns : goal.returns
returns c =
    translate_done c.args.text.now c.args.signer c.args.file.now _ c.read.new.task _ _ c.in_ok-read.ensures c.file_length-needed.ensures.is (all_done _ _ _ c.if-signer-lt1.false c.if-file-needed.false) refl _ c.write.ensures
