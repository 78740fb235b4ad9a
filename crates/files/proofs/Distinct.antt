-- A list of distinct numbers below n has at most n entries.
use Prim.Native.Nat.{ℕ, zero, suc, ◌≤◌, ◌<◌}
use mathlib.Core.Path.{◌≡◌, refl, sym, ap, subst}
use mathlib.Core.Bool.{Bool, true, false}
use mathlib.Core.List.{List, [], ◌∷◌}
use native.Mathlib.Omega.{arith}
use lib.ListN.{length}
use lib.Dec.{eqb}
use borrow.Author.Tests.{eqb-true, eqb-false}
use Rattle.files.proofs.Logic.{split, split_le}

abbrev pub Lacks : ℕ → List ℕ → Type 0
Lacks x [] = Unit {0}
Lacks x (y ∷ l) = (x ≡ y → ⊥) × Lacks x l

abbrev pub Distinct : List ℕ → Type 0
Distinct [] = Unit {0}
Distinct (x ∷ l) = Lacks x l × Distinct l

abbrev pub AllBelow : ℕ → List ℕ → Type 0
AllBelow n [] = Unit {0}
AllBelow n (x ∷ l) = (x < n) × AllBelow n l

pub split_eq {ℓ} : {X : Type ℓ} (m n : ℕ) → (m ≡ n → X) → ((m ≡ n → ⊥) → X) → X
split_eq m n f g = split (eqb m n) (λ e. f (eqb-true m n e)) (λ e. g (eqb-false m n e))

-- the list without n: at most one shorter, and where all are below n + 1, all of it is below n
abbrev leave_out : Bool → ℕ → List ℕ → List ℕ
leave_out true x l = l
leave_out false x l = x ∷ l

abbrev without : ℕ → List ℕ → List ℕ
without n [] = []
without n (x ∷ l) = leave_out (eqb x n) x (without n l)

without_lacks : (n x : ℕ) (l : List ℕ) → Lacks x l → Lacks x (without n l)
without_lacks n x [] h = tt
without_lacks n x (y ∷ l) h = split (eqb y n) (λ e. rw e (without_lacks n x l h.1)) (λ e. rw e (h.0, without_lacks n x l h.1))

without_distinct : (n : ℕ) (l : List ℕ) → Distinct l → Distinct (without n l)
without_distinct n [] h = tt
without_distinct n (y ∷ l) h = split (eqb y n) (λ e. rw e (without_distinct n l h.1)) (λ e. rw e (without_lacks n y l h.0, without_distinct n l h.1))

without_same : (n : ℕ) (l : List ℕ) → Lacks n l → length (without n l) ≡ length l
without_same n [] h = refl
without_same n (y ∷ l) h =
    split (eqb y n) (λ e. absurd (h.0 (sym (eqb-true y n e)))) (λ e. rw e (ap suc (without_same n l h.1)))

without_length : (n : ℕ) (l : List ℕ) → Distinct l → length l ≤ suc (length (without n l))
without_length n [] h = omega arith
without_length n (y ∷ l) h =
    split (eqb y n)
    (λ e. rw e (omega (arith, without_same n l (subst (λ (x : ℕ). Lacks x l) (eqb-true y n e) h.0))))
    (λ e. rw e (omega (arith, without_length n l h.1)))

without_below : (n : ℕ) (l : List ℕ) → AllBelow (suc n) l → AllBelow n (without n l)
without_below n [] h = tt
without_below n (y ∷ l) h =
    split (eqb y n)
    (λ e. rw e (without_below n l h.1))
    (λ e. rw e (split_le n y (λ z. absurd (eqb-false y n e (omega (arith, h.0)))) (λ z. z), without_below n l h.1))

pub distinct_few : (n : ℕ) (l : List ℕ) → Distinct l → AllBelow n l → length l ≤ n
distinct_few zero [] d b = omega arith
distinct_few zero (x ∷ l) d b = absurd (omega (arith, b.0))
distinct_few (suc n) l d b = omega (arith, without_length n l d, distinct_few n (without n l) (without_distinct n l d) (without_below n l b))
