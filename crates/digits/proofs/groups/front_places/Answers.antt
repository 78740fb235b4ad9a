-- A number below 10 has one digit, one below 100 has two.
use borrow.Author.Rules.{rules}
use Rattle.digits.proofs.GroupLaws.{front_one, front_two, front_three}
use Rattle.digits.proofs.groups.front_places.Goals as goal

pub returns-then-n-lt10 : goal.returns-then-n-lt10
returns-then-n-lt10 c = search (rules, front_one)

pub returns-then-n-lt100 : goal.returns-then-n-lt100
returns-then-n-lt100 c = search (rules, front_two)

pub returns : goal.returns
returns c = search (rules, front_three)
