-- None has no plan; else the file of its steps fits or not.
use mathlib.Core.Path.{sym, ap, ◌∙◌}
use native.Mathlib.Omega.{arith}
use Rattle.files.specs.Outcome.{refusal}
use Rattle.search.proofs.PlanFiles.{entry_none, entry_short, entry_done}
use Rattle.search.proofs.stages.entry_fits.Goals as goal

pub returns-then-is_none : goal.returns-then-is_none
returns-then-is_none c = c.at.ensures ∙ sym (entry_none _ _ (sym c.is_none.ensures ∙ c.if-is_none.true))

pub returns-then-room-needed : goal.returns-then-room-needed
returns-then-room-needed c = c.at-then-room-needed.ensures ∙ ap (refusal 21) c.needed-needed.ensures ∙ sym (entry_short _ _ (sym c.is_none.ensures ∙ c.if-is_none.false) (omega (arith, c.needed-needed.ensures, c.if-room-needed.true)))

pub returns : goal.returns
returns c = sym (entry_done _ _ (sym c.is_none.ensures ∙ c.if-is_none.false) (omega (arith, c.needed-needed.ensures, c.if-room-needed.false)))
