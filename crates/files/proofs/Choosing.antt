-- Numbers that pass a test, put one after another into an array: from one number to the next.
use Prim.Native.Nat.{ℕ, ◌+◌, ◌<◌}
use mathlib.Core.Path.{◌≡◌, refl, sym, ap, ap₂, ◌∙◌}
use mathlib.Core.Bool.{Bool, true, false, cond}
use mathlib.Core.List.{List, [], ◌∷◌, ◌++◌, append-nil}
use native.Mathlib.Omega.{arith}
use native.Mathlib.Numerals.{add-one}
use lib.ListN.{length, get_or, set, length-set, length-append, get_or-append}
use lib.Seq.{get_or_at, get_or-set_same, get_or-set_other}
use Rattle.files.specs.Below.{bit, chosen_below}
use Rattle.files.specs.Dense.{row_numbers}
use Rattle.files.proofs.Logic.{split_le}
use Rattle.files.proofs.RowLaws.{row_numbers_length}
use Rattle.files.proofs.Tabulate.{tabulate_is, tabulate_entry}

-- an entry of the numbers so far
row_cell : (l : List ℕ) (k i : ℕ) → i < k → get_or (row_numbers l 0 k) i 0 ≡ get_or l i 0
unfolding row_numbers
row_cell l k i h = tabulate_entry (λ (j : ℕ). get_or l (0 + j) 0) k i 0 h ∙ ap (λ (n : ℕ). get_or l n 0) (omega arith)

-- a list with these entries
row_is : (n : ℕ) (row list : List ℕ) → length list ≡ n → ((i : ℕ) → i < n → get_or row i 0 ≡ get_or list i 0) → row_numbers row 0 n ≡ list
unfolding row_numbers
row_is n row list e f =
    tabulate_is (λ (j : ℕ). get_or row (0 + j) 0) n list 0 e (λ i below. ap (λ (m : ℕ). get_or row m 0) (omega arith) ∙ f i below)

-- no number yet
pub chosen_none : (l : List ℕ) (f : ℕ → Bool) → row_numbers l 0 0 ≡ chosen_below 0 f
unfolding row_numbers
chosen_none l f = refl

-- one number more
pub row_append : (l : List ℕ) (k x : ℕ) → k < length l → row_numbers (set l k x) 0 (k + 1) ≡ row_numbers l 0 k ++ x ∷ []
row_append l k x h =
    row_is (k + 1) (set l k x) (row_numbers l 0 k ++ x ∷ [])
    (length-append (row_numbers l 0 k) (x ∷ []) ∙ omega (arith, row_numbers_length l 0 k))
    (λ i below.
    split_le k i
    (λ a.
    let here : k ≡ i = omega arith in
    rw (← here) (get_or-set_same l k x 0 h ∙ sym (get_or_at (row_numbers l 0 k) x [] 0 k (row_numbers_length l 0 k))))
    (λ a.
    get_or-set_other l k i x 0 (omega arith)
    ∙ sym (get_or-append (row_numbers l 0 k) (x ∷ []) 0 i (omega (arith, row_numbers_length l 0 k)) ∙ row_cell l k i a)))

-- a number more where a test passes
row_pushed : (t : Bool) (l : List ℕ) (k x : ℕ) → k < length l → row_numbers (cond t (set l k x) l) 0 (k + bit t) ≡ row_numbers l 0 k ++ cond t (x ∷ []) []
row_pushed true l k x h = row_append l k x h
row_pushed false l k x h = ap (λ (n : ℕ). row_numbers l 0 n) (omega arith) ∙ sym (append-nil (row_numbers l 0 k))

-- from one number to the next
pub chosen_next : (f : ℕ → Bool) (t : Bool) (l new : List ℕ) (v count next : ℕ) → count < length l → row_numbers l 0 count ≡ chosen_below v f → t ≡ f v
    → new ≡ cond t (set l count v) l → next ≡ count + bit t → row_numbers new 0 next ≡ chosen_below (v + 1) f
chosen_next f t l new v count next h before e set_new is_next =
    ap₂ (λ (a : List ℕ) (n : ℕ). row_numbers a 0 n) set_new is_next
    ∙ row_pushed t l count v h
    ∙ ap₂ (λ (a : List ℕ) (b : Bool). a ++ cond b (v ∷ []) []) before e
    ∙ sym (ap (λ (n : ℕ). chosen_below n f) (add-one v))

-- the array stays as long
pub pushed_length : (t : Bool) (l new : List ℕ) (k x : ℕ) → new ≡ cond t (set l k x) l → length new ≡ length l
pushed_length true l new k x e = ap length e ∙ length-set l k x
pushed_length false l new k x e = ap length e
