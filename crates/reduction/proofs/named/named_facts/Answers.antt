-- The marks of the goal, then those of the actions, are set in an array of zeros.
use mathlib.Core.Bool.{false}
use Rattle.marking.specs.Dense.{row_names, names_anew}
use Rattle.reduction.specs.Dense.{named_at, unmarked}
use Rattle.reduction.proofs.FreshMarks.{fresh_marks_twice}
use Rattle.reduction.proofs.named.named_facts.Goals as goal

pub returns : goal.returns
unfolding named_at
returns c =
    let t = c.args.task.now in
    fresh_marks_twice 2048
    (row_names false t.goal 0 t.sizes t.variables)
    (names_anew false t.conditions t.sizes t.variables c.args.kept.now unmarked t.actions)
    _ _
    c.name_row.ensures
    c.gain_facts.ensures
