-- Levels 1 to 4 have their level; another number has none.
use Rattle.std.proofs.Common.{refl, arith}
use borrow.Author.Tests.{le-leb, lt-leb}
use Rattle.files.specs.Outcome.{guard}
use Rattle.files.proofs.Logic.{split_le}
use Rattle.marking.specs.Mark.{valid_level}
use Rattle.marking.proofs.levels.LevelTryFromU32.try_from.Goals as goal

pub returns-in-1 : goal.returns-in-1
unfolding guard valid_level
returns-in-1 c = rw c.in-1.is (refl, refl)

pub returns-in-2 : goal.returns-in-2
unfolding guard valid_level
returns-in-2 c = rw c.in-2.is (refl, refl)

pub returns-in-3 : goal.returns-in-3
unfolding guard valid_level
returns-in-3 c = rw c.in-3.is (refl, refl)

pub returns-in-4 : goal.returns-in-4
unfolding guard valid_level
returns-in-4 c = rw c.in-4.is (refl, refl)

pub returns-in_default : goal.returns-in_default
unfolding guard valid_level
returns-in_default c =
    let n = c.args.number in
    split_le 1 n
    (λ some. (rw (le-leb 1 n some, lt-leb n 4 (omega arith)) c.at.ensures, tt))
    (λ none. (rw (lt-leb 1 n none) c.at.ensures, tt))
