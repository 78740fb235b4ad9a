-- The loop's invariant: what is left to mark is what the definition has left. A round adds a mark, or is the last.
use Rattle.std.proofs.Common.{◌-◌}
use Rattle.marking.proofs.Rounding.{limit, Rounding}
use Rattle.marking.proofs.rounds.run.Given as goal

abbrev pub invariant-loop-count : goal.invariant-loop-count
invariant-loop-count l =
    Rounding l.task l.fn.level l.marks.kept l.marks.facts l.marks.unlinked l.threats l.kept_before l.counted_before l.marks.rounds l.count

abbrev pub decreases-loop-count : goal.decreases-loop-count
decreases-loop-count l = limit l.task - l.marks.rounds
