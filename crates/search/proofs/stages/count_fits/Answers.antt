-- The two tests in order.
use mathlib.Core.Path.{refl}
use Rattle.search.proofs.FoundLaws.{count_many, count_short, count_done}
use Rattle.search.proofs.stages.count_fits.Goals as goal

pub returns-then-count-gt-MOST_STATES : goal.returns-then-count-gt-MOST_STATES
returns-then-count-gt-MOST_STATES c = count_many _ _ _ c.if-count-gt-MOST_STATES.true c.at.ensures

pub returns-then-room-count : goal.returns-then-room-count
returns-then-room-count c = count_short _ _ _ c.if-count-gt-MOST_STATES.false c.if-room-count.true c.at-then-room-count.ensures

pub returns : goal.returns
returns c = count_done _ _ _ c.if-count-gt-MOST_STATES.false c.if-room-count.false refl
