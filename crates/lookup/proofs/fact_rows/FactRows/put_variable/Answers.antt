use native.Mathlib.Omega.{arith}
use Rattle.std.proofs.Common.{rules}
use Rattle.lookup.specs.FactRows.{leads_to_fact}
use Rattle.lookup.proofs.FactRowLoops.{variable_begin, variable_put, variable_end}
use Rattle.lookup.proofs.fact_rows.FactRows.put_variable.Goals as goal

pub loop-value-init : goal.loop-value-init
loop-value-init c = variable_begin _ _ _ _ _ c.requires.actions_few _

pub loop-value-preserved : goal.loop-value-preserved
unfolding leads_to_fact
loop-value-preserved c =
    variable_put _ _ _ _ _ c.requires.actions_few _ _ _ _ _ c.loop-value.invariant c.put_all.ensures (λ a b p. search rules)

pub returns : goal.returns
returns c = variable_end _ _ _ _ _ c.requires.actions_few _ _ _ _ (omega arith) c.loop-value-test.false c.loop-value.invariant
