use Rattle.std.proofs.Common.{arith}
use Rattle.files.proofs.WritingTasks.{actions_needed_none, actions_needed_next}
use Rattle.files.proofs.arrays.Arrays.actions_length.Goals as goal

pub loop-a-preserved : goal.loop-a-preserved
loop-a-preserved c =
    let d = c.args.self.now in
    let next = actions_needed_next d.variables d.conditions d.effects c.loop-a.a d.actions c.loop-a-test.true in
    (omega arith, omega arith)

pub returns : goal.returns
returns c =
    let d = c.args.self.now in
    let none = actions_needed_none d.variables d.conditions d.effects c.loop-a.a d.actions c.loop-a-test.false in
    record { is = omega arith; at_most = omega arith }
