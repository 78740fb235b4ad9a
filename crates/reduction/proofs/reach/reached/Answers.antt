-- The sets and counts are begun, the start facts are reached, and the effects of the listed actions are followed: the
-- actions whose count is then 0 are the reached ones.
use Prim.Native.Nat.{ℕ}
use mathlib.Core.Path.{◌≡◌, refl, ap, ◌∙◌}
use native.Mathlib.Omega.{arith}
use borrow.Author.Rules.{rules}
use lib.Dec.{eqb}
use lib.ListN.{length-replicate, get_or}
use Rattle.files.specs.Below.{bit}
use Rattle.files.specs.Dense.{held}
use Rattle.files.proofs.Filling.{zeros_entry}
use Rattle.files.proofs.Valid.{task_valid}
use Rattle.reduction.proofs.ReachHeld.{reached_are}
use Rattle.reduction.proofs.ReachStates.{begun_reaching}
use Rattle.reduction.proofs.Within.{limits_held}
use Rattle.reduction.proofs.reach.reached.Goals as goal

pub begin-requires : goal.begin-requires
begin-requires c = record { limits = limits_held c.args.task.now c.requires; empty = zeros_entry 16384; rows_room = omega arith; none = refl }

pub reach_row-requires : goal.reach_row-requires
reach_row-requires c =
    let limits = limits_held c.args.task.now c.requires in
    record {
      whole = record { few_variables = limits.few_variables; within = omega arith };
      state = begun_reaching _ _ _ _ _ _ _ _ c.begin.ensures.begun limits.few_actions (rw c.begin.ensures.facts (zeros_entry 2048)) (rw c.begin.ensures.facts (omega (arith, length-replicate {A = ℕ} 2048 0)));
    }

pub follow-requires : goal.follow-requires
follow-requires c = record { few_variables = (limits_held c.args.task.now c.requires).few_variables; state = c.reach_row.ensures.state }

pub returns : goal.returns
returns c =
    let task = c.args.task.now in
    λ a l.
    let e = c.set_row.ensures.cells a 0 l in
    let mark : get_or c.set_row.new.row a 0 ≡ bit (eqb (get_or c.follow.new.self.counts a 0) 0) = search rules in
    mark ∙ ap bit (reached_are task (task_valid (held task) c.requires) _ c.begin.ensures.begun.asks _ _ _ (rw c.begin.ensures.facts at c.reach_row.ensures.marks) c.follow.ensures a l)
