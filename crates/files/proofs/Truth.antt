-- Tests that pass at the same times are the same test; tests and counts below a bound, from one another.
use Prim.Native.Nat.{ℕ, zero, suc, ◌+◌, ◌≤◌, ◌<◌}
use mathlib.Core.Path.{◌≡◌, refl, sym, ap, ap₂, ◌∙◌}
use mathlib.Core.Bool.{Bool, true, false, not, cond, ◌||◌}
use mathlib.Core.List.{List, [], ◌∷◌}
use native.Mathlib.Omega.{arith}
use lib.Dec.{eqb}
use borrow.Author.Tests.{ne_eqb}
use Rattle.files.specs.Below.{any_below, all_below, bit, count_below, any_of, all_of}
use Rattle.files.proofs.BelowLaws.{any_below_intro, any_below_elim, bit_true, bit_false}
use Rattle.files.proofs.Logic.{split}

pub same_truth : (a b : Bool) → (a ≡ true → b ≡ true) → (b ≡ true → a ≡ true) → a ≡ b
same_truth true b f g = sym (f refl)
same_truth false true f g = g refl
same_truth false false f g = refl

-- tests that agree below the bound
pub any_same : (n : ℕ) (f g : ℕ → Bool) → ((i : ℕ) → i < n → f i ≡ g i) → any_below n f ≡ any_below n g
any_same zero f g h = refl
any_same (suc n) f g h = ap₂ ◌||◌ (h n (omega arith)) (any_same n f g (λ i l. h i (omega arith)))

-- a larger bound adds nothing where nothing passes behind the smaller one
pub any_bound : (m n : ℕ) (f : ℕ → Bool) → m ≤ n → ((i : ℕ) → i < n → f i ≡ true → i < m) → any_below n f ≡ any_below m f
any_bound m n f h inside =
    same_truth (any_below n f) (any_below m f)
    (λ e. let k = any_below_elim n f e in any_below_intro m f k.0 (inside k.0 k.1 k.2) k.2)
    (λ e. let k = any_below_elim m f e in any_below_intro n f k.0 (omega (arith, k.1)) k.2)

-- all pass where none fails
pub all_any : (n : ℕ) (f : ℕ → Bool) → all_below n f ≡ not (any_below n (λ i. not (f i)))
all_any zero f = refl
all_any (suc n) f = split (f n) (λ e. rw e (all_any n f)) (λ e. rw e refl)

pub all_of_any : {A : Type 0} (f : A → Bool) (l : List A) → all_of f l ≡ not (any_of (λ x. not (f x)) l)
all_of_any f [] = refl
all_of_any f (x ∷ l) = split (f x) (λ e. rw e (all_of_any f l)) (λ e. rw e refl)

-- the count is 0 where none passes
pub count_none : (n : ℕ) (f : ℕ → Bool) → eqb (count_below n f) 0 ≡ not (any_below n f)
count_none zero f = refl
count_none (suc n) f =
    split (f n)
    (λ e. ne_eqb (bit (f n) + count_below n f) 0 (λ q. omega (arith, bit_true (f n) e)) ∙ sym (ap (λ (t : Bool). not (t || any_below n f)) e))
    (λ e.
    let rest : bit (f n) + count_below n f ≡ count_below n f = omega (arith, bit_false (f n) e) in
    ap (λ (k : ℕ). eqb k 0) rest ∙ count_none n f ∙ sym (ap (λ (t : Bool). not (t || any_below n f)) e))

-- marks: entries that are 0 or 1
pub bit_marked : (b : Bool) → eqb (bit b) 1 ≡ b
bit_marked true = refl
bit_marked false = refl

pub bit_empty : (b : Bool) → eqb (bit b) 0 ≡ not b
bit_empty true = refl
bit_empty false = refl

pub marked_bit : (n : ℕ) → n ≤ 1 → n ≡ bit (eqb n 1)
marked_bit zero h = refl
marked_bit (suc zero) h = refl
marked_bit (suc (suc n)) h = absurd (omega arith)

pub cond_bit : (p q : Bool) → cond p 1 (bit q) ≡ bit (p || q)
cond_bit true q = refl
cond_bit false q = refl
