-- Marks set in an array of zeros: each cell tells whether its place passes.
use Prim.Native.Nat.{ℕ, ◌<◌}
use mathlib.Core.Path.{◌≡◌, refl, ap, ◌∙◌}
use mathlib.Core.Bool.{Bool, true, false, cond, ◌||◌}
use mathlib.Core.List.{List}
use native.Mathlib.Omega.{arith}
use lib.ListN.{get_or, replicate, length-replicate}
use Rattle.files.specs.Below.{bit}
use Rattle.files.proofs.Filling.{zeros_entry}
use Rattle.marking.specs.Dense.{SetWhere}
use Rattle.marking.proofs.SetWhere.{set_both}

pub fresh_marks : (n : ℕ) (f : ℕ → Bool) (new : List ℕ) → SetWhere f (replicate n 0) new → (i : ℕ) → i < n → get_or new i 0 ≡ bit (f i)
fresh_marks n f new s i h =
    s.entry i (omega (arith, length-replicate {A = ℕ} n 0)) ∙ ap (λ (k : ℕ). cond (f i) 1 k) (zeros_entry n i) ∙ as_bit (f i)
  where
    as_bit : (b : Bool) → cond b 1 0 ≡ bit b
    as_bit true = refl
    as_bit false = refl

-- the same, where marks are set twice
pub fresh_marks_twice : (n : ℕ) (f g : ℕ → Bool) (new next : List ℕ) → SetWhere f (replicate n 0) new → SetWhere g new next → (i : ℕ) → i < n → get_or next i 0 ≡ bit (g i || f i)
fresh_marks_twice n f g new next s r = fresh_marks n (λ i. g i || f i) next (set_both f g (replicate n 0) new next s r)
