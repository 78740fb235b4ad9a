-- The crate's definitions under one name: to unfold `computes` is to unfold them all.
use Rattle.translator.specs.Fields.{byte_at, word_at, line_length, is_digit, digits_length, numeral_length, numeral_at, is_minus, minus_one, signed_at, is_flag, field_at, field_length, numeral_value, field_value}
use Rattle.translator.specs.Format.{bind, repeat, is_open, cursor_by, field_after, fault_after, step_after, cursor_after, value_after}
use Rattle.translator.specs.Stated.{is_value, is_old_value, old_pairs, new_pairs, operator_action, started_variable, textual, in_order_from, ordered_action, ordered, stated}
use Rattle.translator.specs.Text.{says, each, count, name_lines, size, declaration, free_pair, group, start, starts, condition, conditions, effect, effects, operator, rule, text, form_at, check_text, sas_of, text_task}

unfoldable pub computes : Unit {0}
unfolding byte_at word_at line_length is_digit digits_length numeral_length numeral_at is_minus minus_one signed_at is_flag field_at field_length numeral_value field_value bind repeat is_open cursor_by field_after fault_after step_after cursor_after value_after is_value is_old_value old_pairs new_pairs operator_action started_variable textual in_order_from ordered_action ordered stated says each count name_lines size declaration free_pair group start starts condition conditions effect effects operator rule text form_at check_text sas_of text_task
computes = tt
