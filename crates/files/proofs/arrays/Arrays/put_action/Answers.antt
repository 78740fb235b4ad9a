-- The head states 8 bytes and 4 for each pair; cost and counts stand behind it, then the conditions, then the effects.
use native.Mathlib.Omega.{arith}
use borrow.Author.Rules.{rules}
use Rattle.files.specs.Dense.{row_action}
use Rattle.files.specs.Lengths.{action_needed}
use Rattle.files.proofs.WritingTasks.{placed_action}
use Rattle.files.proofs.arrays.Arrays.put_action.Goals as goal

pub put_head-requires : goal.put_head-requires
unfolding action_needed
put_head-requires c = omega arith

pub put_counts-requires : goal.put_counts-requires
unfolding action_needed
put_counts-requires c = omega arith

pub put_pairs-middle-requires : goal.put_pairs-middle-requires
unfolding action_needed
put_pairs-middle-requires c = search rules

pub put_pairs-requires : goal.put_pairs-requires
unfolding action_needed
put_pairs-requires c = search rules

pub returns : goal.returns
unfolding row_action action_needed
returns c =
    let d = c.args.self.now in
    record {
      written =
          placed_action (row_action d.variables d.costs d.conditions d.effects c.args.a) _ _ _ _ _ _ _ _ _
          c.pairs_in-asked.ensures.is
          c.pairs_in-set.ensures.is
          c.put_head.ensures
          (rw c.from.ensures.is at c.put_counts.ensures)
          c.put_pairs-middle.ensures.written
          c.put_pairs-middle.ensures.ends
          c.put_pairs.ensures.written;
      ends = omega arith;
    }
