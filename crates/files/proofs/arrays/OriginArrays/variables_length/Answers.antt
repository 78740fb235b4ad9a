use Rattle.std.proofs.Common.{arith}
use Rattle.files.proofs.WritingOrigins.{origins_needed_none, origins_needed_next}
use Rattle.files.proofs.arrays.OriginArrays.variables_length.Goals as goal

pub loop-i-preserved : goal.loop-i-preserved
loop-i-preserved c =
    let d = c.args.self.now in
    let next = origins_needed_next d.sizes c.loop-i.i d.variables c.loop-i-test.true in
    (omega arith, omega arith)

pub returns : goal.returns
returns c =
    let d = c.args.self.now in
    let none = origins_needed_none d.sizes c.loop-i.i d.variables c.loop-i-test.false in
    record { is = omega arith; at_most = omega arith }
