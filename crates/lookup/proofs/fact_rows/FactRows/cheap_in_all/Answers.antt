-- Of the actions in the rows of all values, those in the row behind them are left.
use Rattle.lookup.proofs.FactRowLoops.{all_cheap}
use Rattle.lookup.proofs.fact_rows.FactRows.cheap_in_all.Goals as goal

pub returns : goal.returns
returns c = all_cheap _ _ _ _ _ _ c.in_all-words.ensures.all c.keep.ensures
