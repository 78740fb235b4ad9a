-- The loop's invariant: of the values before `d`, those below the size are marked. Turn `d` sets the place of value `d`.
use Rattle.std.proofs.Common.{◌+◌, ◌*◌, ◌&&◌, eqb, ltb}
use Rattle.files.specs.Below.{any_below}
use Rattle.marking.specs.Dense.{SetWhere}
use Rattle.marking.proofs.gains.name_values.Given as goal

abbrev pub invariant-loop-d : goal.invariant-loop-d
invariant-loop-d l = SetWhere (λ j. any_below l.d (λ k. eqb j (32 * l.v + k) && ltb k l.size)) l.initial.facts l.facts
