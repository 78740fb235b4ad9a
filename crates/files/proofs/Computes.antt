-- The crate's definitions under one name: to unfold `computes` is to unfold them all.
use Rattle.files.specs.Outcome.{is_done, guard, and_then, in_second, fits, overwrite, after}
use Rattle.files.specs.Bytes.{u16_at, u32_at, u16_bytes, u32_bytes, placed}
use Rattle.files.specs.Records.{body_length, kind_at, record_end, records_end, body_rule, body_fits, head_at, numbers_at, sign_off_at, size_fits, signer_of, numbers_from, number_bytes, record_bytes, signed}
use Rattle.files.specs.TaskFile.{header_at, variables_in, actions_in, variable_at, variables_at, variable_place, size_at, pair_at, pairs_at, goal_at, conditions_in, effects_in, action_length, effects_place, action_form_at, action_at, actions_at, goal_place, actions_place, check_task, pairs_from, variables_from, action_from, actions_from, task_of, action_place, pair_bytes, variable_bytes, action_body, action_bytes, task_records, task_file}
use Rattle.files.specs.OriginFile.{values_in, variable_origin_at, variable_origins_at, action_origins_at, variable_origins_from, origin_variables_in, origin_actions_place, check_origin, origins_from, origin_of, origin_body, variable_origin_bytes, origin_file}
use Rattle.files.specs.PlanFile.{steps_in, check_plan_file, plan_of, plan_file}
use Rattle.files.specs.Reading.{read_task, read_origin, read_plan}
use Rattle.files.specs.Accepted.{valid_signer, valid_pairs, valid_variable, valid_action, accepted_task, rising, valid_values, accepted_origin, accepted_plan}
use Rattle.files.specs.Dense.{row_pairs, row_variable, row_action, held, row_numbers, row_origin, held_origin}
use Rattle.files.specs.Rows.{cleared, stored, filled, filled_rows, stored_sizes, stored_starts, stored_costs, condition_lists, effect_lists}
use Rattle.files.specs.Lengths.{action_needed, actions_needed, task_needed, origins_needed, origin_needed}

unfoldable pub computes : Unit {0}
unfolding is_done guard and_then in_second fits overwrite after u16_at u32_at u16_bytes u32_bytes placed body_length kind_at record_end records_end body_rule body_fits head_at numbers_at sign_off_at size_fits signer_of numbers_from number_bytes record_bytes signed header_at variables_in actions_in variable_at variables_at variable_place size_at pair_at pairs_at goal_at conditions_in effects_in action_length effects_place action_form_at action_at actions_at goal_place actions_place check_task pairs_from variables_from action_from actions_from task_of action_place pair_bytes variable_bytes action_body action_bytes task_records task_file values_in variable_origin_at variable_origins_at action_origins_at variable_origins_from origin_variables_in origin_actions_place check_origin origins_from origin_of origin_body variable_origin_bytes origin_file steps_in check_plan_file plan_of plan_file read_task read_origin read_plan valid_signer valid_pairs valid_variable valid_action accepted_task rising valid_values accepted_origin accepted_plan row_pairs row_variable row_action held row_numbers row_origin held_origin cleared stored filled filled_rows stored_sizes stored_starts stored_costs condition_lists effect_lists action_needed actions_needed task_needed origins_needed origin_needed
computes = tt
