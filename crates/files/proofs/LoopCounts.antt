-- Loops that count, add up, and fill a row of a table: from one turn to the next.
use Prim.Native.Nat.{ℕ, zero, suc, ◌+◌, ◌≤◌, ◌<◌}
use mathlib.Core.Path.{◌≡◌, refl, ◌∙◌}
use mathlib.Core.Bool.{Bool, not}
use mathlib.Core.List.{List}
use native.Mathlib.Omega.{arith}
use native.Mathlib.Numerals.{add-one}
use lib.Dec.{leb, ltb}
use lib.ListN.{length, get_or, set}
use lib.Seq.{get_or-set_same, get_or-set_other}
use borrow.Author.Tests.{lt-ltb, le-ltb, le-leb, lt-leb}
use Rattle.files.specs.Below.{bit, count_below, sum_of}
use Rattle.files.proofs.Logic.{split_le}

-- the two orders of a comparison
pub leb_ltb : (m n : ℕ) → leb m n ≡ not (ltb n m)
leb_ltb m n = split_le m n (λ l. rw (le-leb m n l, le-ltb n m l)) (λ l. rw (lt-leb m n l, lt-ltb n m l))

pub count_next : (f : ℕ → Bool) (i count one : ℕ) → count ≡ count_below i f → one ≡ bit (f i) → count + one ≡ count_below (i + 1) f
count_next f i count one e d = rw (add-one i) (omega arith)

pub sum_next : (l : List ℕ) (i total one : ℕ) → total ≡ sum_of l i → one ≡ get_or l i 0 → total + one ≡ sum_of l (i + 1)
unfolding sum_of
sum_next l i total one e d = rw (add-one i) (omega arith)

sum_mono : (l : List ℕ) (m n : ℕ) → m ≤ n → sum_of l m ≤ sum_of l n
unfolding sum_of
sum_mono l m zero h = let e : m ≡ 0 = omega arith in rw e (omega arith)
sum_mono l m (suc n) h =
    split_le (suc n) m
    (λ a. let e : m ≡ suc n = omega arith in rw e (omega arith))
    (λ a. omega (arith, sum_mono l m n (omega arith)))

pub sum_within : (l : List ℕ) (i n total : ℕ) → i < n → total ≡ sum_of l i → total + get_or l i 0 ≤ sum_of l n
sum_within l i n total h e = omega (arith, sum_next l i total (get_or l i 0) e refl, sum_mono l (i + 1) n (omega arith))

-- the row at `base` of a table, filled up to its cell i
pub row_next : (f : ℕ → ℕ) (l : List ℕ) (base i x : ℕ) → base + i < length l → ((j : ℕ) → j < i → get_or l (base + j) 0 ≡ f j) → x ≡ f i
    → (j : ℕ) → j < i + 1 → get_or (set l (base + i) x) (base + j) 0 ≡ f j
row_next f l base i x h before e j below =
    split_le i j
    (λ a. let here : i ≡ j = omega arith in rw (← here) (get_or-set_same l (base + i) x 0 h ∙ e))
    (λ a. get_or-set_other l (base + i) (base + j) x 0 (omega arith) ∙ before j a)
