-- Header, variables, goal, actions and sign-off stand one behind the other.
use Rattle.std.proofs.Common.{arith, rules}
use mathlib.Core.Path.{◌∙◌}
use Rattle.files.specs.Dense.{held}
use Rattle.files.specs.Lengths.{task_needed}
use Rattle.files.specs.TaskFile.{task_file}
use Rattle.files.proofs.Placed.{placed_overwrite}
use Rattle.files.proofs.Lengths.{task_file_length}
use Rattle.files.proofs.WritingTasks.{placed_task}
use Rattle.files.proofs.arrays.Arrays.write.Goals as goal

pub put_header-requires : goal.put_header-requires
unfolding task_needed
put_header-requires c = omega arith

pub put_variables-requires : goal.put_variables-requires
unfolding task_needed
put_variables-requires c = search rules

pub put_goal-first-requires : goal.put_goal-first-requires
unfolding task_needed
put_goal-first-requires c = search rules

pub put_actions-end-requires : goal.put_actions-end-requires
unfolding task_needed
put_actions-end-requires c = search rules

pub put_sign_off-requires : goal.put_sign_off-requires
unfolding task_needed
put_sign_off-requires c = omega arith

pub returns : goal.returns
returns c =
    let d = c.args.self.now in
    placed_task d c.args.signer _ _ _ _ _ _ _ _
    c.put_header.ensures
    c.put_variables.ensures
    c.put_goal-first.ensures.written
    c.put_goal-first.ensures.ends
    c.put_actions-end.ensures.written
    c.put_actions-end.ensures.ends
    c.put_sign_off.ensures
    ∙ placed_overwrite c.args.buffer.now (task_file (held d) c.args.signer) (rw (task_file_length d c.args.signer) c.requires.room)
