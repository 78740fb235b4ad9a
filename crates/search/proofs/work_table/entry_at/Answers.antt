use mathlib.Core.Path.{sym, ◌∙◌}
use lib.ListN.{get_or-eq_default}
use Rattle.std.proofs.lemmas.List.{get_or_default}
use Rattle.distances.specs.Entries.{table_entry, no_entry}
use Rattle.search.proofs.work_table.entry_at.Goals as goal

pub returns-then-state-table : goal.returns-then-state-table
unfolding table_entry
returns-then-state-table c = get_or_default c.args.table.now c.args.state _ no_entry c.if-state-table.true

pub returns : goal.returns
unfolding table_entry
returns c = c.none.ensures ∙ sym (get_or-eq_default c.args.table.now no_entry c.if-state-table.false)
