use Rattle.std.proofs.Common.{rules, ◌+◌, get_or}
use Rattle.marking.specs.Dense.{other_than, missing}
use Rattle.marking.proofs.cover_table.missing.Goals as goal

pub returns : goal.returns
unfolding missing
returns c =
    let a = c.args in
    let conditions = a.conditions.now in
    c.count_where.ensures.is (λ v. other_than (get_or conditions (a.base + v) 0) (get_or conditions (a.other + v) 0)) (λ i b l is. search rules)
