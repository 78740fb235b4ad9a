-- A layer other than -1 is refused at its place.
use native.Mathlib.Omega.{arith}
use Rattle.translator.proofs.Calls.{handed, judged_by, judged_shut, none_told}
use Rattle.translator.proofs.VariableReading.{layer_read}
use Rattle.translator.proofs.variables.layer.Goals as goal

pub returns-in_err-layer-clause-read : goal.returns-in_err-layer-clause-read
returns-in_err-layer-clause-read c = rw (handed _ _ c.from_residual.ensures.1) (layer_read _ _ _ _ c.in_err-layer.ensures.read (judged_shut c.in_err-layer.field-0.0 _ _ _))

pub returns-clause-read : goal.returns-clause-read
returns-clause-read c =
    layer_read _ _ _ _ c.in_ok-layer.ensures.read
    (judged_by c.judged.result c.signed.new.self.at _ _ _ (omega arith) (rw (none_told _ _ c.is_none.ensures c.in_ok-layer.ensures.told) at c.judged.ensures))
