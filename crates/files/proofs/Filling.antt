-- An array that is filled from the front: what holds of each element before v and of the new one holds of each before v + 1,
-- and what holds of each entry from v on holds of each from v + 1 on.
use Prim.Native.Nat.{ℕ, ◌+◌, ◌≤◌, ◌<◌}
use mathlib.Core.Path.{◌≡◌, sym, subst, ◌∙◌}
use mathlib.Core.List.{List}
use native.Mathlib.Omega.{arith}
use lib.ListN.{length, get_or, set, replicate, length-replicate, get_or-replicate, get_or-eq_default}
use lib.Seq.{get_or-set_same, get_or-set_other}
use Rattle.files.proofs.Logic.{split_le}

module _ {ℓ} (l : List ℕ) (v x : ℕ) (P : ℕ → ℕ → Type ℓ) where
  pub filled_before : v < length l → ((w : ℕ) → w < v → P w (get_or l w 0)) → P v x → (w : ℕ) → w < v + 1 → P w (get_or (set l v x) w 0)
  filled_before h before now w below =
      split_le v w
      (λ a.
      let here : v ≡ w = omega arith in
      subst (λ (u : ℕ). P u (get_or (set l v x) u 0)) here (subst (P v) (sym (get_or-set_same l v x 0 h)) now))
      (λ a. subst (P w) (sym (get_or-set_other l v w x 0 (omega arith))) (before w a))

  pub filled_after : ((w : ℕ) → v ≤ w → P w (get_or l w 0)) → (w : ℕ) → v + 1 ≤ w → P w (get_or (set l v x) w 0)
  filled_after after w above = subst (P w) (sym (get_or-set_other l v w x 0 (omega arith))) (after w (omega arith))

-- an array of zeros
pub zeros_entry : (n w : ℕ) → ◌≡◌ {A = ℕ} (get_or {A = ℕ} (replicate n 0) w 0) 0
zeros_entry n w =
    split_le n w
    (λ a. get_or-eq_default {A = ℕ} (replicate n 0) 0 (omega (arith, length-replicate {A = ℕ} n 0)))
    (λ a. get_or-replicate {A = ℕ} n w 0 0 a)

-- the cells before a row, where one of the row's is set
pub below_next : (l₀ l : List ℕ) (base i x : ℕ) → ((j : ℕ) → j < base → get_or l j 0 ≡ get_or l₀ j 0)
    → (j : ℕ) → j < base → get_or (set l (base + i) x) j 0 ≡ get_or l₀ j 0
below_next l₀ l base i x before j h = get_or-set_other l (base + i) j x 0 (omega arith) ∙ before j h
