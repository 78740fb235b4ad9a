-- The loop's invariant: the bytes of the values before `d` stand.
use Rattle.std.proofs.Common.{◌≡◌}
use Rattle.files.specs.Bytes.{placed}
use Rattle.marking.specs.Dense.{fact_bytes}
use Rattle.marking.proofs.results.write_values.Given as goal

abbrev pub invariant-loop-d : goal.invariant-loop-d
invariant-loop-d l = l.marks ≡ placed l.initial.marks l.at (fact_bytes l.facts l.unlinked l.v l.d)
