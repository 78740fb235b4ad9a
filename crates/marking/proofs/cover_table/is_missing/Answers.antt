-- No variable is looked at that there is not.
use mathlib.Core.Path.{refl}
use borrow.Author.Tests.{lt-ltb, le-ltb}
use Rattle.marking.proofs.cover_table.is_missing.Goals as goal

pub returns-then-variables-v : goal.returns-then-variables-v
returns-then-variables-v c = rw (le-ltb _ _ c.if-variables-v.true) refl

pub returns : goal.returns
returns c = rw (lt-ltb _ _ c.if-variables-v.false) c.other_than.ensures
