use Rattle.std.proofs.Common.{refl, arith, rules}
use mathlib.Core.Path.{◌∙◌}
use Rattle.files.specs.Dense.{row_action}
use Rattle.files.specs.Records.{record_bytes}
use Rattle.files.specs.Task.{Action}
use Rattle.files.specs.TaskFile.{action_body, action_bytes}
use Rattle.files.proofs.Lengths.{row_action_length}
use Rattle.files.proofs.Writing.{placed_none, placed_next}
use Rattle.files.proofs.WritingTasks.{actions_needed_none, actions_needed_next}
use Rattle.files.proofs.arrays.Arrays.put_actions.Goals as goal

pub put_action-place-requires : goal.put_action-place-requires
put_action-place-requires c =
    let d = c.args.self.now in
    let next = actions_needed_next d.variables d.conditions d.effects c.loop-a.a d.actions c.loop-a-test.true in
    search rules

pub loop-a-preserved : goal.loop-a-preserved
unfolding action_bytes
loop-a-preserved c =
    let d = c.args.self.now in
    let loop = c.loop-a in
    let next = actions_needed_next d.variables d.conditions d.effects loop.a d.actions c.loop-a-test.true in
    let written = row_action_length d.variables d.costs d.conditions d.effects loop.a in (
      placed_next action_bytes (row_action d.variables d.costs d.conditions d.effects) loop.buffer loop.place loop.a d.actions (λ (action : Action). record_bytes 4 (action_body action)) _ _ c.loop-a-test.true refl
          c.put_action-place.ensures.written (omega arith)
          ∙ loop.invariant.0,
      omega arith,
    )

pub returns : goal.returns
unfolding action_bytes
returns c =
    let d = c.args.self.now in
    let none = actions_needed_none d.variables d.conditions d.effects c.loop-a.a d.actions c.loop-a-test.false in
    record {
      written = placed_none action_bytes (row_action d.variables d.costs d.conditions d.effects) _ _ _ _ c.loop-a-test.false refl ∙ c.loop-a.invariant.0;
      ends = omega arith;
    }
