use Rattle.std.proofs.Common.{◌≡◌, ◌+◌, arith, get_or}
use Rattle.marking.specs.Dense.{names_at, row_names}
use Rattle.marking.proofs.SetWhere.{turns_begin, turns_next}
use Rattle.marking.proofs.gains.name_row.Goals as goal

pub loop-v-init : goal.loop-v-init
unfolding row_names
loop-v-init c = turns_begin _

pub loop-v-preserved : goal.loop-v-preserved
unfolding row_names
loop-v-preserved c =
    let l = c.loop-v in
    let a = c.args in
    turns_next (λ k j. names_at a.whole k (get_or a.row.now (a.base + k) 0) (get_or a.task.now.sizes k 0) j) _ _ _ l.v l.invariant c.name_cell.ensures

pub returns : goal.returns
returns c = let end : c.loop-v.v ≡ c.args.task.now.variables = omega arith in rw (← end) c.loop-v.invariant
