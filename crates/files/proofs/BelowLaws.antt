-- Laws of tests and counts over the numbers below a bound, and of the numbers chosen there: the rank of a number among
-- those that pass is its place in their list.
use Prim.Native.Nat.{ℕ, zero, suc, ◌≤◌, ◌<◌}
use mathlib.Core.Path.{◌≡◌, refl, sym, ap, ◌∙◌}
use mathlib.Core.Bool.{Bool, true, false, cond, ◌||◌}
use mathlib.Core.List.{List, [], ◌∷◌, ◌++◌, map}
use mathlib.Core.Logic.{⊎_elim}
use native.Mathlib.Omega.{arith}
use native.Mathlib.Nat.{not-suc-le-zero}
use lib.ListN.{length, get_or, length-append, get_or-append}
use lib.Seq.{get_or_at}
use Rattle.files.specs.Below.{any_below, all_below, bit, count_below, chosen_below, any_of}
use Rattle.files.proofs.Logic.{clash, split, split_le, and_split, and_join, or_split, or_left, or_right}

-- some number passes; every number passes
pub any_below_intro : (n : ℕ) (f : ℕ → Bool) (i : ℕ) → i < n → f i ≡ true → any_below n f ≡ true
any_below_intro zero f i h e = absurd (not-suc-le-zero h)
any_below_intro (suc n) f i h e =
    split_le n i
    (λ l. let here : i ≡ n = omega arith in or_left (any_below n f) (ap f (sym here) ∙ e))
    (λ l. or_right (f n) (any_below_intro n f i l e))

pub any_below_elim : (n : ℕ) (f : ℕ → Bool) → any_below n f ≡ true → (i : ℕ) × (i < n) × (f i ≡ true)
any_below_elim zero f e = clash e refl
any_below_elim (suc n) f e =
    ⊎_elim
    (λ here. (n, omega arith, here))
    (λ below. let k = any_below_elim n f below in (k.0, omega (arith, k.1), k.2))
    (or_split (f n) (any_below n f) e)

pub all_below_elim : (n : ℕ) (f : ℕ → Bool) → all_below n f ≡ true → (i : ℕ) → i < n → f i ≡ true
all_below_elim zero f e i h = absurd (not-suc-le-zero h)
all_below_elim (suc n) f e i h =
    let both = and_split (f n) (all_below n f) e in
    split_le n i
    (λ l. let here : i ≡ n = omega arith in ap f here ∙ both.0)
    (λ l. all_below_elim n f both.1 i l)

pub all_below_intro : (n : ℕ) (f : ℕ → Bool) → ((i : ℕ) → i < n → f i ≡ true) → all_below n f ≡ true
all_below_intro zero f h = refl
all_below_intro (suc n) f h = and_join (h n (omega arith)) (all_below_intro n f (λ i l. h i (omega arith)))

-- counts
pub bit_true : (b : Bool) → b ≡ true → bit b ≡ 1
bit_true b e = rw e

pub bit_false : (b : Bool) → b ≡ false → bit b ≡ 0
bit_false b e = rw e

pub bit_most : (b : Bool) → bit b ≤ 1
bit_most true = omega arith
bit_most false = omega arith

pub count_mono : (K : ℕ → Bool) (m n : ℕ) → m ≤ n → count_below m K ≤ count_below n K
count_mono K m zero h = let e : m ≡ 0 = omega arith in rw e (omega arith)
count_mono K m (suc n) h =
    split_le (suc n) m
    (λ l. let e : m ≡ suc n = omega arith in rw e (omega arith))
    (λ l. omega (arith, count_mono K m n (omega arith)))

-- one that passes is counted by all above it
pub count_strict : (K : ℕ → Bool) (n x : ℕ) → x < n → K x ≡ true → count_below x K < count_below n K
count_strict K zero x h e = absurd (not-suc-le-zero h)
count_strict K (suc n) x h e =
    split_le n x
    (λ l. let q : x ≡ n = omega arith in rw q (omega (arith, bit_true (K n) (ap K (sym q) ∙ e))))
    (λ l. omega (arith, count_strict K n x l e))

pub rank_injective : (K : ℕ → Bool) (x y : ℕ) → K x ≡ true → K y ≡ true → count_below x K ≡ count_below y K → x ≡ y
rank_injective K x y kx ky e =
    split_le x y
    (λ l. split_le y x (λ m. omega arith) (λ m. absurd (omega (arith, count_strict K y x m kx))))
    (λ l. absurd (omega (arith, count_strict K x y l ky)))

-- the numbers chosen, in rising order
pub chosen_length : (K : ℕ → Bool) (n : ℕ) → length (chosen_below n K) ≡ count_below n K
chosen_length K zero = refl
chosen_length K (suc n) =
    split (K n)
    (λ e. rw e (length-append (chosen_below n K) (n ∷ []) ∙ omega (arith, chosen_length K n)))
    (λ e. rw e (length-append (chosen_below n K) [] ∙ omega (arith, chosen_length K n)))

pub chosen_at : (K : ℕ → Bool) (n x : ℕ) → x < n → K x ≡ true → get_or (chosen_below n K) (count_below x K) 0 ≡ x
chosen_at K zero x h e = absurd (not-suc-le-zero h)
chosen_at K (suc n) x h e =
    split_le n x
    (λ l. let q : x ≡ n = omega arith in rw (q, ap K (sym q) ∙ e) (get_or_at (chosen_below n K) n [] 0 (count_below n K) (chosen_length K n)))
    (λ l.
    get_or-append (chosen_below n K) (cond (K n) (n ∷ []) []) 0 (count_below x K) (omega (arith, chosen_length K n, count_strict K n x l e))
    ∙ chosen_at K n x l e)

-- the number at a place
pub record Chosen (K : ℕ → Bool) (n place : ℕ) : Type 0 where
  pub number : ℕ
  pub below : number < n
  pub passes : K number ≡ true
  pub rank : count_below number K ≡ place

pub chosen : (K : ℕ → Bool) (n place : ℕ) → place < count_below n K → Chosen K n place
chosen K zero place h = absurd (not-suc-le-zero h)
chosen K (suc n) place h =
    split_le (count_below n K) place
    (λ l.
    split (K n)
    (λ e. record { number = n; below = omega arith; passes = e; rank = omega (arith, bit_true (K n) e) })
    (λ e. absurd (omega (arith, bit_false (K n) e))))
    (λ l. let c = chosen K n place l in record { number = c.number; below = omega (arith, c.below); passes = c.passes; rank = c.rank })

-- an entry of a list of images
pub map_entry {ℓ ℓ'} : {A : Type ℓ} {B : Type ℓ'} (f : A → B) (l : List A) (i : ℕ) (e : B) (d : A) → i < length l → get_or (map f l) i e ≡ f (get_or l i d)
map_entry f [] i e d h = absurd (not-suc-le-zero h)
map_entry f (x ∷ xs) zero e d h = refl
map_entry f (x ∷ xs) (suc i) e d h = map_entry f xs i e d (omega arith)

-- some entry of two lists passes
pub any_append : {A : Type 0} (f : A → Bool) (xs ys : List A) → any_of f (xs ++ ys) ≡ any_of f xs || any_of f ys
any_append f [] ys = refl
any_append f (x ∷ xs) ys = split (f x) (λ e. rw e) (λ e. rw e (any_append f xs ys))
