use Rattle.std.proofs.Common.{rules, ◌+◌, not, ◌&&◌, eqb, get_or}
use Rattle.marking.specs.Dense.{is_marked, unlike}
use Rattle.marking.proofs.covering.Round.unlike.Goals as goal

pub returns : goal.returns
unfolding unlike
returns c =
    let a = c.args in
    let r = a.self.now in
    let effects = r.task.now.effects in
    c.count_where.ensures.is
    (λ v. is_marked r.tracked.now v && not (eqb (get_or effects (a.base + v) 0) (get_or effects (a.other + v) 0)))
    (λ i b l is. search rules)
