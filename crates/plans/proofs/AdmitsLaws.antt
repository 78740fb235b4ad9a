-- What one condition admits: its value alone. No law beside these opens `admits`.
use Prim.Native.Nat.{ℕ}
use mathlib.Core.Path.{◌≡◌, refl, sym, ap, ◌∙◌}
use mathlib.Core.Bool.{true}
use lib.Dec.{eqb}
use borrow.Author.Tests.{eqb-true, eqb-false, eq-eqb, ne_eqb}
use Rattle.files.specs.Task.{Pair, pair}
use Rattle.files.proofs.Logic.{split}
use Rattle.plans.specs.State.{admits}

pub admits_is : (c : Pair) (value : ℕ) → admits c value ≡ eqb c.value value
unfolding admits
admits_is c value = refl

pub admits_own : (c : Pair) → admits c c.value ≡ true
admits_own c = admits_is c c.value ∙ eq-eqb c.value c.value refl

pub admits_value : (c : Pair) (value : ℕ) → admits c value ≡ true → c.value ≡ value
admits_value c value e = eqb-true c.value value (sym (admits_is c value) ∙ e)

-- there is a value that it admits
pub admits_some : (c : Pair) → (value : ℕ) × (admits c value ≡ true)
admits_some c = (c.value, admits_own c)

-- where another admits its value, it admits what the other does
pub admits_alike : (c other : Pair) (value : ℕ) → admits other c.value ≡ true → admits other value ≡ true → admits c value ≡ true
admits_alike c other value own e =
    admits_is c value ∙ eq-eqb c.value value (sym (admits_value other c.value own) ∙ admits_value other value e)

-- renumbered, it admits the new number of what it admitted, and of nothing else where no other value shares that number
pub admits_renumbered : (c : Pair) (v : ℕ) (new : ℕ → ℕ) (value : ℕ) → ((d : ℕ) → admits c d ≡ true → new value ≡ new d → value ≡ d)
    → admits (pair v (new c.value)) (new value) ≡ admits c value
admits_renumbered c v new value own =
    admits_is (pair v (new c.value)) (new value)
    ∙ split (eqb c.value value)
    (λ e. eq-eqb (new c.value) (new value) (ap new (eqb-true c.value value e)) ∙ sym e)
    (λ e. ne_eqb (new c.value) (new value) (λ q. eqb-false c.value value e (sym (own c.value (admits_own c) (sym q)))) ∙ sym e)
    ∙ sym (admits_is c value)
