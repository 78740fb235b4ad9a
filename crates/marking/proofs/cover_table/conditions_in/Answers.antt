use Rattle.std.proofs.Common.{rules, ◌+◌, not, eqb, get_or}
use Rattle.marking.specs.Dense.{conditions_in}
use Rattle.marking.proofs.cover_table.conditions_in.Goals as goal

pub returns : goal.returns
unfolding conditions_in
returns c =
    let a = c.args in c.count_where.ensures.is (λ v. not (eqb (get_or a.task.now.conditions (a.base + v) 0) 255)) (λ i b l is. search rules)
