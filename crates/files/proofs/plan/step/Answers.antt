-- Step `i` is the number at byte 4 + 2i; a body has fewer than 65,536 bytes, so that `i` is below 32,768.
use Prim.Native.Nat.{ℕ, ◌<◌}
use mathlib.Core.List.{List}
use lib.ListN.{length}
use mathlib.Core.Path.{sym, ◌∙◌}
use native.Mathlib.Omega.{arith}
use Rattle.files.specs.Bytes.{Octets, u16_at}
use Rattle.files.specs.PlanFile.{plan_of, steps_in}
use Rattle.files.specs.Records.{body_length}
use Rattle.files.proofs.Numbers.{numbers_length, numbers_entry}
use Rattle.files.proofs.plan.step.Goals as goal

few : (s : List ℕ) (i : ℕ) → Octets s → i < length (plan_of s) → i < 32768
unfolding plan_of steps_in body_length u16_at
few s i octets h = omega (arith, numbers_length s 4 (steps_in s), octets 0, octets 1)

pub overflow_mul-i : goal.overflow_mul-i
overflow_mul-i c = omega (arith, few c.args.s.now c.args.i (λ k. omega (arith, c.type_inv.s k)) c.requires)

pub overflow_add-i : goal.overflow_add-i
overflow_add-i c = omega (arith, few c.args.s.now c.args.i (λ k. omega (arith, c.type_inv.s k)) c.requires)

pub returns : goal.returns
unfolding plan_of
returns c =
    let s = c.args.s.now in
    c.u16_at-number.ensures.is ∙ sym (numbers_entry s 4 (steps_in s) c.args.i (omega (arith, numbers_length s 4 (steps_in s))))
