-- The crate's definitions under one name: to unfold `computes` is to unfold them all.
use Rattle.plans.specs.State.{start_state, admits, holds, all_hold, has_fact, applicable, apply}
use Rattle.plans.specs.Plan.{no_steps, add_step, total_of, at_most, not_after}
use Rattle.plans.specs.Check.{take_steps, plan_outcome, with_total, answer, walk_answer, check_plan}
use Rattle.plans.specs.Tally.{list_state, meets_cell, after_cell, row_of, state_of, total_in, end_answer}

unfoldable pub computes : Unit {0}
unfolding start_state admits holds all_hold has_fact applicable apply no_steps add_step total_of at_most not_after take_steps plan_outcome with_total answer walk_answer check_plan list_state meets_cell after_cell row_of state_of total_in end_answer
computes = tt
