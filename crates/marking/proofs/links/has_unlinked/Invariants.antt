-- The loop's invariant: no value before `d` has an unlinked fact.
use Rattle.std.proofs.Common.{◌≡◌, ◌+◌, ◌*◌, false}
use Rattle.files.specs.Below.{any_below}
use Rattle.marking.specs.Dense.{is_marked}
use Rattle.marking.proofs.links.has_unlinked.Given as goal

abbrev pub invariant-loop-d : goal.invariant-loop-d
invariant-loop-d l = any_below l.d (λ k. is_marked l.unlinked (32 * l.v + k)) ≡ false
