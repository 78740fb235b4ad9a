-- The crate's definitions under one name: to unfold `computes` is to unfold them all.
use Rattle.marking.specs.Marks.{names, first_marks, same_marks}
use Rattle.marking.specs.Links.{sets_other, threatened, linked, unlinked, has_relevant, tracked, gains_action}
use Rattle.marking.specs.Covering.{within, could_cover, covers, covered}
use Rattle.marking.specs.Rounds.{next_actions, tracked_marks, counted_actions, gains_fact, next_facts, next_marks, mark_from, marking}
use Rattle.marking.specs.Mark.{action_marks_of, fact_mark, fact_marks_of, valid_level, marks_fit, mark_input, mark_stages}

unfoldable pub computes : Unit {0}
unfolding names first_marks same_marks sets_other threatened linked unlinked has_relevant tracked gains_action within could_cover covers covered next_actions tracked_marks counted_actions gains_fact next_facts next_marks mark_from marking action_marks_of fact_mark fact_marks_of valid_level marks_fit mark_input mark_stages
computes = tt
