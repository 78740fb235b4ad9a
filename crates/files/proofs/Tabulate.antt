-- Laws of tabulated lists: their length, their entries, and when a list is one.
use Prim.Native.Nat.{ℕ, zero, suc, ◌+◌, ◌-◌, ◌≤◌, ◌<◌}
use mathlib.Core.Path.{◌≡◌, refl, sym, ap, ◌∙◌}
use mathlib.Core.List.{List, [], ◌∷◌}
use native.Mathlib.Omega.{arith}
use native.Mathlib.Nat.{add-zero}
use lib.ListN.{length, get_or}
use lib.Seq.{ext_get_or}
use Rattle.files.specs.Below.{tabulate_from, tabulate}
use Rattle.files.proofs.Countdown.{more_from, none_from}

module _ {A : Type 0} (f : ℕ → A) where
  pub tabulate_from_length : (i n : ℕ) → length (tabulate_from i n f) ≡ n
  tabulate_from_length i zero = refl
  tabulate_from_length i (suc n) = ap suc (tabulate_from_length (i + 1) n)

  pub tabulate_from_entry : (i n k : ℕ) (d : A) → k < n → get_or (tabulate_from i n f) k d ≡ f (i + k)
  tabulate_from_entry i zero k d h = absurd (omega arith)
  tabulate_from_entry i (suc n) zero d h = ap f (sym (add-zero i))
  tabulate_from_entry i (suc n) (suc k) d h = tabulate_from_entry (i + 1) n k d (omega arith) ∙ ap f (omega arith)

  pub tabulate_entry : (n k : ℕ) (d : A) → k < n → get_or (tabulate n f) k d ≡ f k
  tabulate_entry n k d h = tabulate_from_entry 0 n k d h ∙ ap f (omega arith)

  -- a list with these entries is the tabulated one
  pub tabulate_is : (n : ℕ) (l : List A) (d : A) → length l ≡ n → ((k : ℕ) → k < n → f k ≡ get_or l k d) → tabulate n f ≡ l
  tabulate_is n l d e h =
      ext_get_or d (tabulate n f) l (tabulate_from_length 0 n ∙ sym e)
      (λ k lt. let below : k < n = omega (arith, tabulate_from_length 0 n) in tabulate_entry n k d below ∙ h k below)

  -- the entries from i on, of `count`
  pub tabulate_from_next : (i count : ℕ) → i < count → tabulate_from i (count - i) f ≡ f i ∷ tabulate_from (i + 1) (count - (i + 1)) f
  tabulate_from_next i count h = ap (λ (n : ℕ). tabulate_from i n f) (more_from i count h)

  pub tabulate_from_none : (i count : ℕ) → count ≤ i → tabulate_from i (count - i) f ≡ []
  tabulate_from_none i count h = ap (λ (n : ℕ). tabulate_from i n f) (none_from i count h)
