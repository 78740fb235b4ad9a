-- The row behind those of the facts leaves them as they stand.
use Rattle.std.proofs.Common.{rules}
use Rattle.lookup.specs.FactRows.{costs_within}
use Rattle.lookup.proofs.FactRowLoops.{cheap_put}
use Rattle.lookup.proofs.fact_rows.FactRows.fill_cheap.Goals as goal

pub returns : goal.returns
unfolding costs_within
returns c =
    cheap_put _ _ _ _ _ _ _ _ _ c.requires.few.facts_few c.requires.actions_few c.fill_by.ensures c.put_all.ensures (λ a b p. search rules)
