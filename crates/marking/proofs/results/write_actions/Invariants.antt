-- The loop's invariant: the bytes of the actions before `a` stand.
use Rattle.std.proofs.Common.{◌≡◌, get_or}
use Rattle.files.specs.Below.{tabulate}
use Rattle.files.specs.Bytes.{placed}
use Rattle.marking.proofs.results.write_actions.Given as goal

abbrev pub invariant-loop-a : goal.invariant-loop-a
invariant-loop-a l = l.marks ≡ placed l.initial.marks 0 (tabulate l.a (λ j. get_or l.kept j 0))
