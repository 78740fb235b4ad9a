-- By the count of digits: three as put_three writes them, or the last two or the last of the packed number.
use native.Mathlib.Omega.{arith}
use lib.ListN.{length-set}
use mir.Facts.{Fits-8_16}
use borrow.Author.Rules.{rules}
use Rattle.digits.proofs.GroupLaws.{front_one, front_two, front_three}
use Rattle.digits.proofs.PutLaws.{tens_fit, units_fit, front_three_put, front_two_put, front_one_put}
use Rattle.digits.proofs.groups.put_front.Goals as goal

pub put_three-requires : goal.put_three-requires
put_three-requires g c =
    let fit = c.requires in
    record { below = fit.below; room = omega (arith, fit.room, front_three c.args.n c.if-n-gt99.true fit.below) }

pub returns-then-n-gt99 : goal.returns-then-n-gt99
returns-then-n-gt99 g c = search (rules, front_three_put)

pub overflow_cast-buffer : goal.overflow_cast-buffer
overflow_cast-buffer g c = search (rules, tens_fit)

pub bounds-buffer-at : goal.bounds-buffer-at
bounds-buffer-at g c =
    let long = front_two c.args.n c.if-n-gt9.true (omega (arith, c.if-n-gt99.false)) in
    omega (arith, c.requires.room, long)

pub bounds-buffer-at-then-n-gt9 : goal.bounds-buffer-at-then-n-gt9
bounds-buffer-at-then-n-gt9 g c =
    let long = front_two c.args.n c.if-n-gt9.true (omega (arith, c.if-n-gt99.false)) in
    simp length-set (omega (arith, c.requires.room, long))

pub returns-then-n-gt9 : goal.returns-then-n-gt9
returns-then-n-gt9 g c = search (rules, front_two_put)

pub overflow_add-buffer-2 : goal.overflow_add-buffer-2
overflow_add-buffer-2 g c = search (rules, units_fit, Fits-8_16)

pub overflow_cast-buffer-2 : goal.overflow_cast-buffer-2
overflow_cast-buffer-2 g c = search (rules, units_fit)

pub bounds-buffer-at-2 : goal.bounds-buffer-at-2
bounds-buffer-at-2 g c = omega (arith, c.requires.room, front_one c.args.n (omega (arith, c.if-n-gt9.false)))

pub returns : goal.returns
returns g c = search (rules, front_one_put)
