-- The crate's definitions under one name: to unfold `computes` is to unfold them all.
use Rattle.demands.specs.Listing.{line, printed_steps, plan_lines, listing}
use Rattle.demands.specs.Examples.{cases}

unfoldable pub computes : Unit {0}
unfolding line printed_steps plan_lines listing cases
computes = tt
