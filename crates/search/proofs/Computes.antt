-- The crate's definitions under one name: to unfold `computes` is to unfold them all.
use Rattle.distances.specs.States.{state_count, state_number, state_at}
use Rattle.distances.specs.Table.{less, least, same, step_to, at_goal, next_state, through, least_below, distances_in, distances, entry_of, table_of, start_number}
use Rattle.search.specs.FirstPlan.{first_action, steps_from, first_plan, found_plan}
use Rattle.search.specs.Least.{started_at}
use Rattle.distances.specs.Entries.{is_none, less_entry, lowered, after_step, same_entry, table_entry}
use Rattle.distances.specs.Rows.{leads_to, offered, row_states, row_state, can_reach, differs_only}
use Rattle.lookup.specs.Moves.{row_weight}
use Rattle.lookup.specs.FactRows.{can_have}
use Rattle.search.specs.ReadOff.{has_by}
use Rattle.search.specs.Planner.{valid_planning, taken_level, searched, searched_states, plan_found, count_fits, plan_fits, search_stages, plan_made, plan_stages}
use Rattle.search.specs.Found.{found_states, entry_fits, plan_by, headed, signed_off, both_together}

unfoldable pub computes : Unit {0}
unfolding state_count state_number state_at less least same step_to at_goal next_state through least_below distances_in distances entry_of table_of first_action steps_from start_number first_plan started_at is_none less_entry lowered after_step leads_to offered row_states row_weight row_state can_have can_reach differs_only same_entry valid_planning taken_level searched searched_states plan_found plan_fits search_stages plan_made plan_stages found_plan found_states table_entry has_by count_fits entry_fits plan_by headed signed_off both_together
computes = tt
