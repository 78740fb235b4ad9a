use Prim.Native.Nat.{◌-◌}
use mathlib.Core.Path.{◌≡◌, sym, ap, ◌∙◌}
use native.Mathlib.Omega.{arith}
use lib.ListN.{length}
use Rattle.translator.specs.declared.fields.Found.{Found}
use Rattle.translator.proofs.NumberReading.{below_digits, above_digits, digits_start, digits_end, digits_stop, digits_next}
use Rattle.translator.proofs.NumeralLaws.{between_digit}
use Rattle.translator.proofs.fields.Text.digits.Goals as goal
use Rattle.translator.proofs.fields.Text.digits.Goals.{then-byte-lt48-via-then-byte-lt48, then-byte-lt48-via-else-byte-lt48+then-byte-gt57}

pub loop-here-init : goal.loop-here-init
loop-here-init c = digits_start _ _ c.args.self.now.within

pub returns-then-byte-lt48 : goal.returns-then-byte-lt48
returns-then-byte-lt48 c =
    digits_stop _ _ _ _ c.loop-here.invariant c.loop-here-test.true
    (elim c.then-byte-lt48.branch [
      | then-byte-lt48-via-then-byte-lt48 w ↦ below_digits _ w.if-byte-lt48.true
      | then-byte-lt48-via-else-byte-lt48+then-byte-gt57 w ↦ above_digits _ w.if-byte-gt57.true
    ])

pub next_value-value-requires : goal.next_value-value-requires
next_value-value-requires c = record { few = c.loop-here.invariant.2; least = c.if-byte-lt48.false }

pub loop-here-preserved : goal.loop-here-preserved
loop-here-preserved c = digits_next _ _ _ _ c.loop-here.invariant _ c.loop-here-test.true (between_digit _ c.if-byte-lt48.false c.if-byte-gt57.false) c.next_value-value.ensures

pub returns : goal.returns
returns c =
    let end : c.loop-here.here ≡ length c.args.self.now.bytes.now = omega (arith, c.loop-here.auto.here-end c.args.self.now.within) in
    let found : Found = record { count = length c.args.self.now.bytes.now - c.args.self.now.at; value = c.loop-here.value } in
    sym (ap (λ n. record found { count = n - c.args.self.now.at }) end) ∙ digits_end _ _ _ _ c.loop-here.invariant c.loop-here-test.false
