-- The packed number gives back the three digits, stored one behind the other.
use borrow.Author.Rules.{rules}
use Rattle.digits.proofs.PutLaws.{hundreds_fit, three_put}
use Rattle.digits.proofs.groups.put_three.Goals as goal

pub overflow_cast-buffer : goal.overflow_cast-buffer
overflow_cast-buffer g c = search (rules, hundreds_fit)

pub returns : goal.returns
returns g c = search (rules, three_put)
