-- Levels 4 and 5 are taken; no other is.
use mathlib.Core.Path.{refl}
use borrow.Author.Tests.{eq-eqb, ne_eqb}
use Rattle.search.specs.Planner.{valid_planning, taken_level}
use Rattle.search.proofs.levels.taken_level.Goals as goal

pub returns-then-level-eq4 : goal.returns-then-level-eq4
unfolding taken_level valid_planning
returns-then-level-eq4 c = rw (eq-eqb _ 4 c.if-level-eq4.true) refl

pub returns-then-level-eq5 : goal.returns-then-level-eq5
unfolding taken_level valid_planning
returns-then-level-eq5 c = rw (ne_eqb _ 4 c.if-level-eq4.false, eq-eqb _ 5 c.if-level-eq5.true) refl

pub returns : goal.returns
unfolding taken_level valid_planning
returns c = rw (ne_eqb _ 4 c.if-level-eq4.false, ne_eqb _ 5 c.if-level-eq5.false) refl
