-- The crate's definitions under one name: to unfold `computes` is to unfold them all.
use Rattle.reduction.specs.Named.{named, has_named, settled, kept_variable}
use Rattle.reduction.specs.Renumber.{new_variable, named_count, new_value, new_size}
use Rattle.reduction.specs.ReducedBy.{kept_variables, kept_actions, reduced_pairs, reduced_variable, reduced_action, reduced_by, origin_by, kept_at}
use Rattle.reduction.specs.Reach.{sets, fact_reached, condition_reached, action_reached, reached_in, reached_actions, reached}
use Rattle.reduction.specs.Turns.{struck_to, turn_reduced, turn_task, originals, turn_origin, composed_variable, composed, own_origin, same_pair, same_variable, same_action, same_task, turns_from, turning}
use Rattle.reduction.specs.Task.{mark_level, reduced_task, origins_at, turn_count, by_original}
use Rattle.reduction.specs.Reduce.{reduced_file, origins_file, files_fit, valid_reduction, reduce_input, reduce_stages}
use Rattle.reduction.specs.Stretch.{side_of, stretch_outcome, condition_bytes, stretch}

unfoldable pub computes : Unit {0}
unfolding named has_named settled kept_variable new_variable named_count new_value new_size kept_variables kept_actions reduced_pairs reduced_variable reduced_action reduced_by origin_by kept_at sets fact_reached condition_reached action_reached reached_in reached_actions reached struck_to turn_reduced turn_task originals turn_origin composed_variable composed own_origin same_pair same_variable same_action same_task turns_from turning mark_level reduced_task origins_at turn_count by_original reduced_file origins_file files_fit valid_reduction reduce_input reduce_stages side_of stretch_outcome condition_bytes stretch
computes = tt
