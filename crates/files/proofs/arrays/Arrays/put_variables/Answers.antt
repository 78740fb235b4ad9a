use Rattle.std.proofs.Common.{◌+◌, ◌*◌, ◌++◌, refl, arith}
use mathlib.Core.Path.{◌∙◌}
use Rattle.files.specs.Bytes.{u16_bytes}
use Rattle.files.specs.Dense.{row_variable}
use Rattle.files.specs.Records.{record_bytes}
use Rattle.files.specs.Task.{Variable}
use Rattle.files.specs.TaskFile.{variable_bytes}
use Rattle.files.proofs.Writing.{placed_none, placed_next}
use Rattle.files.proofs.arrays.Arrays.put_variables.Goals as goal

pub loop-v-preserved : goal.loop-v-preserved
unfolding variable_bytes row_variable record_bytes u16_bytes
loop-v-preserved c =
    let d = c.args.self.now in
    let v = c.loop-v.v in
    placed_next variable_bytes (row_variable d.sizes d.starts) c.loop-v.buffer (8 + 8 * v) v d.variables (λ (x : Variable). record_bytes 2 (u16_bytes x.size ++ u16_bytes x.start)) _ _ c.loop-v-test.true refl
    c.put_variable.ensures (omega arith)
    ∙ c.loop-v.invariant

pub returns : goal.returns
unfolding variable_bytes
returns c =
    let d = c.args.self.now in
    placed_none variable_bytes (row_variable d.sizes d.starts) _ _ _ _ c.loop-v-test.false refl ∙ c.loop-v.invariant
