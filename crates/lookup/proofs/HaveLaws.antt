-- What a variable can have after a step, by its two cells.
use Prim.Native.Nat.{ℕ}
use mathlib.Core.Path.{◌≡◌, refl, ◌∙◌}
use mathlib.Core.Bool.{true}
use lib.Dec.{eqb}
use borrow.Author.Tests.{eq-eqb, ne_eqb}
use Rattle.plans.specs.Tally.{meets_cell}
use Rattle.plans.proofs.RowStates.{meets_none, meets_some}
use Rattle.lookup.specs.FactRows.{can_have}

module _ (condition effect value : ℕ) where
  pub have_effect : (effect ≡ 255 → ⊥) → eqb effect value ≡ can_have condition effect value
  unfolding can_have
  have_effect d = rw (ne_eqb effect 255 d) refl

  pub have_left : effect ≡ 255 → meets_cell condition value ≡ can_have condition effect value
  unfolding can_have
  have_left e = rw (eq-eqb effect 255 e) refl

  pub have_condition : effect ≡ 255 → (condition ≡ 255 → ⊥) → eqb condition value ≡ can_have condition effect value
  have_condition e d = meets_some condition value d ∙ have_left e

  pub have_any : effect ≡ 255 → condition ≡ 255 → true ≡ can_have condition effect value
  have_any e d = meets_none condition value d ∙ have_left e
