-- Rows of the dense arrays do not depend on the order of the pairs that fill them.
use Prim.Native.Nat.{ℕ, zero, suc, ◌+◌, ◌%◌, ◌≤◌, ◌<◌}
use mathlib.Core.Path.{◌≡◌, refl, sym, ap, ◌∙◌}
use mathlib.Core.Bool.{Bool, true, false, not, cond, ◌||◌}
use mathlib.Core.List.{List, [], ◌∷◌, map}
use mathlib.Core.Option
use mathlib.Core.Option.{Option, none, some}
use native.Mathlib.Omega.{arith}
use lib.Dec.{eqb, ltb}
use lib.ListN.{length, get_or, set}
use lib.Seq.{set_comm}
use borrow.Author.Tests.{eqb-true, eqb-false, eq-eqb, ne_eqb}
use Rattle.files.specs.Below.{any_of, all_of}
use Rattle.files.specs.Rows.{cleared, stored, filled, filled_rows}
use Rattle.files.specs.Task.{Pair, value_in}
use Rattle.files.proofs.Logic.{split, split_option, and_split}
use Rattle.files.proofs.RowLaws.{value_in_here, value_in_past, row_cell}
use Rattle.translator.specs.Stated.{is_none, variables_of, in_order_from, in_order}
use Rattle.translator.proofs.OrderLaws.{Apart, order_skip, order_next, order_empty, order_past, order_values, order_rises}

stored_swap : (row : List ℕ) (base v x w y : ℕ) → (v ≡ w → ⊥) → stored (stored row base v x) base w y ≡ stored (stored row base w y) base v x
unfolding stored
stored_swap row base v x w y d = go (ltb v 64) (ltb w 64)
  where
    go : (s t : Bool)
        → cond t (set (cond s (set row (base + v) (x % 256)) row) (base + w) (y % 256)) (cond s (set row (base + v) (x % 256)) row)
        ≡ cond s (set (cond t (set row (base + w) (y % 256)) row) (base + v) (x % 256)) (cond t (set row (base + w) (y % 256)) row)
    go true true = set_comm row (base + v) (base + w) (x % 256) (y % 256) (λ q. d (omega arith))
    go true false = refl
    go false true = refl
    go false false = refl

-- the first pair at its place in the order
filled_insert : (base : ℕ) (p : Pair) (ps : List Pair) (row : List ℕ) (v count : ℕ) → value_in ps p.variable ≡ none → v ≤ p.variable → p.variable < v + count
    → filled row base (in_order_from (p ∷ ps) v count) ≡ filled (stored row base p.variable p.value) base (in_order_from ps v count)
unfolding filled
filled_insert base p ps row v zero e a b = absurd (omega arith)
filled_insert base p ps row v (suc count) e a b =
    split (eqb p.variable v)
    (λ q.
    let here : p.variable ≡ v = eqb-true p.variable v q in
    ap (filled row base) (order_next (p ∷ ps) v count p.value (value_in_here p ps v here))
    ∙ ap (λ (w : ℕ). filled (stored row base w p.value) base (in_order_from (p ∷ ps) (v + 1) count)) (sym here)
    ∙ ap (filled placed base) (order_past p ps (v + 1) count (omega arith))
    ∙ ap (filled placed base) (sym (order_skip ps v count (ap (value_in ps) (sym here) ∙ e))))
    (λ q.
    let differ : p.variable ≡ v → ⊥ = eqb-false p.variable v q in
    let above : v + 1 ≤ p.variable = omega arith in
    let past : value_in (p ∷ ps) v ≡ value_in ps v = value_in_past p ps v differ in
    split_option (value_in ps v)
    (λ r.
    ap (filled row base) (order_skip (p ∷ ps) v count (past ∙ r))
    ∙ filled_insert base p ps row (v + 1) count e above (omega arith)
    ∙ ap (filled placed base) (sym (order_skip ps v count r)))
    (λ x r.
    ap (filled row base) (order_next (p ∷ ps) v count x (past ∙ r))
    ∙ filled_insert base p ps (stored row base v x) (v + 1) count e above (omega arith)
    ∙ ap (λ (l : List ℕ). filled l base (in_order_from ps (v + 1) count)) (stored_swap row base v x p.variable p.value (λ z. differ (sym z)))
    ∙ ap (filled placed base) (sym (order_next ps v count x r))))
  where
    placed : List ℕ
    placed = stored row base p.variable p.value

-- a row
pub filled_ordered : (n : ℕ) (row : List ℕ) (base : ℕ) (ps : List Pair) → Apart n ps → filled row base ps ≡ filled row base (in_order n ps)
unfolding filled
filled_ordered n row base [] a = ap (filled row base) (sym (order_empty 0 n))
filled_ordered n row base (p ∷ ps) a =
    filled_ordered n (stored row base p.variable p.value) base ps a.2
    ∙ sym (filled_insert base p ps row 0 n a.1 (omega arith) (omega (arith, a.0)))

-- rows, one for each element that passes a test
pub filled_rows_ordered : {A : Type 0} (n : ℕ) (test : A → Bool) (f : A → List Pair) (rows : List ℕ) (base : ℕ) (l : List A)
    → ((x : A) → test x ≡ true → Apart n (f x)) → all_of test l ≡ true
    → filled_rows rows base (map f l) ≡ filled_rows rows base (map (λ x. in_order n (f x)) l)
unfolding filled_rows
filled_rows_ordered n test f rows base [] h e = refl
filled_rows_ordered n test f rows base (x ∷ l) h e =
    let both = and_split (test x) (all_of test l) e in
    ap (λ (r : List ℕ). filled_rows r (base + 64) (map f l)) (filled_ordered n (cleared rows base 64) base (f x) (h x both.0))
    ∙ filled_rows_ordered n test f (filled (cleared rows base 64) base (in_order n (f x))) (base + 64) l h both.1

-- whether a list has a pair on a variable
value_given : (ps : List Pair) (v : ℕ) → is_none (value_in ps v) ≡ not (any_of (eqb v) (variables_of ps))
value_given [] v = refl
value_given (p ∷ ps) v =
    split (eqb p.variable v)
    (λ q.
    ap is_none (value_in_here p ps v (eqb-true p.variable v q))
    ∙ sym (ap (λ (t : Bool). not (t || any_of (eqb v) (variables_of ps))) (eq-eqb v p.variable (sym (eqb-true p.variable v q)))))
    (λ q.
    ap is_none (value_in_past p ps v (eqb-false p.variable v q))
    ∙ value_given ps v
    ∙ sym (ap (λ (t : Bool). not (t || any_of (eqb v) (variables_of ps))) (ne_eqb v p.variable (λ z. eqb-false p.variable v q (sym z)))))

cell_none : (o : Option ℕ) → ((x : ℕ) → o ≡ some x → x < 255) → eqb (Option.get_or o 255) 255 ≡ is_none o
cell_none none h = refl
cell_none (some x) h = ne_eqb x 255 (λ q. omega (arith, h x refl))

-- a cell is empty just where no pair is on its variable
pub filled_cell : (n : ℕ) (row : List ℕ) (base : ℕ) (ps : List Pair) (v : ℕ) → n ≤ 64 → v < 64 → base + 64 ≤ length row → Apart n ps
    → ((w x : ℕ) → value_in ps w ≡ some x → x < 255)
    → eqb (get_or (filled (cleared row base 64) base ps) (base + v) 0) 255 ≡ not (any_of (eqb v) (variables_of ps))
filled_cell n row base ps v b h r a small =
    ap (λ (l : List ℕ). eqb (get_or l (base + v) 0) 255) (filled_ordered n (cleared row base 64) base ps a)
    ∙ ap (λ (c : ℕ). eqb c 255) (row_cell n row base (in_order n ps) v b h r (order_rises ps n 0 0 n (omega arith) (omega arith) small))
    ∙ ap (λ (o : Option ℕ). eqb (Option.get_or o 255) 255) (order_values ps n v a)
    ∙ cell_none (value_in ps v) (small v)
    ∙ value_given ps v
