-- The step by the action that is found.
use native.Mathlib.Omega.{arith}
use Rattle.search.proofs.stages.Search.step_from.Goals as goal

pub next_state-requires : goal.next_state-requires
next_state-requires c = c.requires.goes c.next_in-a.result (omega (arith, c.next_in-a.ensures.last, c.requires.more))
