use Prim.Native.Nat.{◌+◌, ◌<◌}
use mathlib.Core.Path.{refl, ◌∙◌, ap}
use native.Mathlib.Omega.{arith}
use lib.ListN.{length}
use Rattle.files.specs.Outcome.{outcome_of}
use Rattle.files.proofs.Guards.{refused_number}
use Rattle.translator.proofs.Calls.{handed}
use Rattle.translator.proofs.CursorLaws.{byte_within, word_start, word_none, word_stops, word_next}
use Rattle.translator.proofs.fields.Text.word_due.Goals as goal

pub loop-i-init : goal.loop-i-init
loop-i-init c = (word_start c.args.w.now c.args.self.now.bytes.now c.args.self.now.at, omega (arith, c.args.self.now.within))

pub returns-in_err-byte_due : goal.returns-in_err-byte_due
returns-in_err-byte_due c =
    ap outcome_of (handed _ _ c.from_residual.ensures.1)
    ∙ word_stops _ _ _ _ _ c.loop-i.invariant.0 _ c.loop-i-test.true c.in_err-byte_due.ensures (refused_number c.in_err-byte_due.field-0.0)

pub loop-i-preserved : goal.loop-i-preserved
loop-i-preserved c =
    let self = c.args.self.now in
    let within : self.at + c.loop-i.i < length self.bytes.now = byte_within _ _ _ _ c.in_ok-byte_due.ensures refl in
    (word_next _ _ _ _ _ c.loop-i.invariant.0 _ c.loop-i-test.true c.in_ok-byte_due.ensures refl, omega (arith, within))

pub returns : goal.returns
returns c = word_none _ _ _ _ _ c.loop-i.invariant.0 c.loop-i-test.false
