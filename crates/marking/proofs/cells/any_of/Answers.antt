-- The sum of three bits is 0 where all are.
use Rattle.std.proofs.Common.{◌≡◌, refl, ◌+◌, Bool, true, false, not, ◌||◌, eqb}
use Rattle.std.specs.Int.{from_bool}
use Rattle.marking.proofs.cells.any_of.Goals as goal

any_bit : (p q r : Bool) → not (eqb (from_bool p + from_bool q + from_bool r) 0) ≡ p || (q || r)
any_bit true true true = refl
any_bit true true false = refl
any_bit true false true = refl
any_bit true false false = refl
any_bit false true true = refl
any_bit false true false = refl
any_bit false false true = refl
any_bit false false false = refl

pub returns : goal.returns
returns c =
    let a = c.args in
    rw (c.from.ensures, c.from-2.ensures, c.from-3.ensures) (any_bit a.one a.other a.third)
