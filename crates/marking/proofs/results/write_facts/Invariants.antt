-- The loop's invariant: the bytes of the variables before `v` stand, and `at` is their number.
use Rattle.std.proofs.Common.{◌≡◌, get_or}
use Rattle.files.specs.Below.{join_below, sum_of}
use Rattle.files.specs.Bytes.{placed}
use Rattle.marking.specs.Dense.{fact_bytes}
use Rattle.marking.proofs.results.write_facts.Given as goal

abbrev pub invariant-loop-v : goal.invariant-loop-v
invariant-loop-v l =
    (l.marks ≡ placed l.initial.marks 0 (join_below l.v (λ w. fact_bytes l.facts l.unlinked w (get_or l.task.sizes w 0))))
    × (l.at ≡ sum_of l.task.sizes l.v)
