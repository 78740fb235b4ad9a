-- By cases of the test: one value more where some are left over.
use native.Mathlib.Omega.{arith}
use borrow.Author.Tests.{lt-ltb, le-ltb}
use Rattle.files.proofs.BelowLaws.{bit_true, bit_false}
use Rattle.reduction.specs.Dense.{named_in, new_size_at}
use Rattle.reduction.proofs.renumber.new_size.Goals as goal

pub returns-then-count-size : goal.returns-then-count-size
unfolding new_size_at
returns-then-count-size c =
    let a = c.args in
    let named = c.named_in-count.ensures.is in
    omega (arith, named, bit_true _ (lt-ltb (named_in a.named.now a.v) a.size (omega (arith, named))))

pub returns-else-count-size : goal.returns-else-count-size
unfolding new_size_at
returns-else-count-size c =
    let a = c.args in
    let named = c.named_in-count.ensures.is in
    omega (arith, named, bit_false _ (le-ltb (named_in a.named.now a.v) a.size (omega (arith, named))))
