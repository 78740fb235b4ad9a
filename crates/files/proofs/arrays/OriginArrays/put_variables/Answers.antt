use Rattle.std.proofs.Common.{◌≤◌, get_or, refl, arith, rules}
use mathlib.Core.Path.{◌∙◌}
use Rattle.files.specs.Dense.{row_origin}
use Rattle.files.specs.OriginFile.{VariableOrigin, origin_body, variable_origin_bytes}
use Rattle.files.specs.Records.{record_bytes}
use Rattle.files.proofs.Lengths.{row_origin_length}
use Rattle.files.proofs.Writing.{placed_none, placed_next}
use Rattle.files.proofs.WritingOrigins.{origins_needed_none, origins_needed_next}
use Rattle.files.proofs.arrays.OriginArrays.put_variables.Goals as goal

pub put_variable-place-requires : goal.put_variable-place-requires
put_variable-place-requires c =
    let d = c.args.self.now in
    let loop = c.loop-i in
    let next = origins_needed_next d.sizes loop.i d.variables c.loop-i-test.true in
    let size : get_or d.sizes loop.i 0 ≤ 32 = c.requires.source.few_values loop.i c.loop-i-test.true in
    search rules

pub loop-i-preserved : goal.loop-i-preserved
unfolding variable_origin_bytes
loop-i-preserved c =
    let d = c.args.self.now in
    let loop = c.loop-i in
    let next = origins_needed_next d.sizes loop.i d.variables c.loop-i-test.true in
    let written = row_origin_length d.numbers d.sizes d.values loop.i in (
      placed_next variable_origin_bytes (row_origin d.numbers d.sizes d.values) loop.buffer loop.place loop.i d.variables (λ (o : VariableOrigin). record_bytes 6 (origin_body o)) _ _ c.loop-i-test.true refl
          c.put_variable-place.ensures.written (omega arith)
          ∙ loop.invariant.0,
      omega arith,
    )

pub returns : goal.returns
unfolding variable_origin_bytes
returns c =
    let d = c.args.self.now in
    let none = origins_needed_none d.sizes c.loop-i.i d.variables c.loop-i-test.false in
    record {
      written = placed_none variable_origin_bytes (row_origin d.numbers d.sizes d.values) _ _ _ _ c.loop-i-test.false refl ∙ c.loop-i.invariant.0;
      ends = omega arith;
    }
