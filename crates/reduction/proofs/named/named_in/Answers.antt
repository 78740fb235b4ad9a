use mathlib.Core.Path.{◌≡◌}
use native.Mathlib.Omega.{arith}
use Rattle.files.specs.Below.{count_below}
use Rattle.marking.proofs.SetWhere.{at_end}
use Rattle.reduction.specs.Dense.{named_value, named_in}
use Rattle.reduction.proofs.named.named_in.Goals as goal

pub returns : goal.returns
unfolding named_in
returns c =
    let l = c.loop-d in
    let s = c.args in
    record {
      is = at_end (λ n. l.count ≡ count_below n (named_value s.named.now s.v)) l.d 32 (omega arith) c.loop-d-test.false l.invariant.0;
      at_most = omega arith;
    }
