-- Origins as arrays: the own origins of a task, origins composed, and a turn that moves nothing.
use Rattle.std.specs.Prelude.{ℕ, ◌+◌, ◌*◌, ◌<◌, ◌≡◌, Bool, ◌&&◌, List, eqb, get_or}
use Rattle.files.specs.Below.{all_below}
use Rattle.files.specs.Clauses.{OriginWithin}
use Rattle.files.specs.Dense.{OriginSizes, held, held_origin}
use Rattle.files.specs.declared.arrays.Arrays.{Arrays}
use Rattle.files.specs.declared.arrays.OriginArrays.{OriginArrays}
use Rattle.reduction.specs.Clauses.{Numbered, OriginFor}
use Rattle.reduction.specs.Turns.{composed, own_origin}

-- each new value is below the size that an array has for its variable
abbrev pub OriginValues : OriginArrays → List ℕ → Type 0
OriginValues o sizes = (i value : ℕ) → i < o.variables → value < get_or o.sizes i 0 → get_or o.values (32 * i + value) 0 < get_or sizes i 0

-- arrays hold the own origins of the task that arrays hold
pub record Owns (d : Arrays) (o : OriginArrays) : Type 0 where
  pub within : OriginFor d o
  pub values : OriginValues o d.sizes
  pub origins : held_origin o ≡ own_origin (held d)

-- the second's variables and actions are numbers of the first's, and the first's new values are values of the second's
pub record Composable (first second : OriginArrays) : Type 0 where
  pub writable : OriginWithin first.variables first.actions first.sizes
  pub variables : Numbered second.numbers second.variables first.variables
  pub actions : Numbered second.originals second.actions first.actions
  pub few_values : OriginSizes second.sizes second.variables
  pub values : (i value : ℕ) → i < second.variables → value < get_or first.sizes (get_or second.numbers i 0) 0
      → get_or first.values (32 * get_or second.numbers i 0 + value) 0 < get_or second.sizes i 0

-- arrays hold the two origins composed
pub record Composes (first second after : OriginArrays) : Type 0 where
  pub variables : after.variables ≡ second.variables
  pub actions : after.actions ≡ second.actions
  pub writable : OriginWithin after.variables after.actions after.sizes
  pub values : (sizes : List ℕ) → OriginValues second sizes → OriginValues after sizes
  pub origins : held_origin after ≡ composed (held_origin first) (held_origin second)

-- each value of the row at `base` is its own new value
unfoldable pub row_unmoved : List ℕ → ℕ → ℕ → Bool
row_unmoved values base size = all_below size (λ value. eqb (get_or values (base + value) 0) value)

-- as many variables and actions as before, and each value its own new value
unfoldable pub unmoved_at : ℕ → ℕ → ℕ → ℕ → List ℕ → List ℕ → Bool
unmoved_at variables actions count chosen sizes values =
    eqb count variables && (eqb chosen actions && all_below variables (λ v. row_unmoved values (32 * v) (get_or sizes v 0)))
