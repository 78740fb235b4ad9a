-- Rows of the dense arrays: the numbers and pairs of a row, and that a row filled with pairs that rise holds just those pairs.
use Prim.Native.Nat.{ℕ, zero, suc, ◌+◌, ◌*◌, ◌%◌, ◌≤◌, ◌<◌}
use mathlib.Core.Path.{◌≡◌, refl, sym, ap, ap₂, ◌∙◌}
use mathlib.Core.Bool.{Bool, true, false, cond}
use mathlib.Core.List.{List, [], ◌∷◌}
use mathlib.Core.Option
use mathlib.Core.Option.{Option, none, some}
use native.Mathlib.Omega.{arith}
use native.Mathlib.Nat.{add-zero}
use lib.ListN.{length, get_or, set, take, drop, length-set}
use Rattle.std.proofs.Common.{not, nat_eq, count_by, drop-cons}
use Rattle.std.proofs.lemmas.List.Sums.{sum_by-cons}
use lib.Seq.{get_or-set_same, get_or-set_other}
use lib.Dec.{eqb, ltb}
use borrow.Author.Tests.{lt-ltb, eq-eqb, ne_eqb, eqb-true, eqb-false}
use Rattle.files.specs.Task.{Pair, pair, value_in}
use Rattle.files.specs.Dense.{row_pairs, row_numbers}
use Rattle.files.specs.Rows.{cleared, stored, filled, filled_rows}
use Rattle.files.proofs.Countdown.{none_left}
use Rattle.files.proofs.Tabulate.{tabulate_from_length}

-- pairs on variables from `at_least` on and below n that strictly rise, with values that a row can hold
abbrev pub Ordered : ℕ → ℕ → List Pair → Type 0
Ordered n at_least [] = Unit {0}
Ordered n at_least (p ∷ ps) = (at_least ≤ p.variable) × (p.variable < n) × (p.value < 255) × Ordered n (p.variable + 1) ps

-- the cell that a row has for a variable
abbrev pub cell_of : List Pair → ℕ → ℕ
cell_of ps v = Option.get_or (value_in ps v) 255

pub value_in_here : (p : Pair) (ps : List Pair) (v : ℕ) → p.variable ≡ v → value_in (p ∷ ps) v ≡ some p.value
value_in_here p ps v e = ap (λ (t : Bool). cond t (some p.value) (value_in ps v)) (eq-eqb p.variable v e)

pub value_in_past : (p : Pair) (ps : List Pair) (v : ℕ) → (p.variable ≡ v → ⊥) → value_in (p ∷ ps) v ≡ value_in ps v
value_in_past p ps v d = ap (λ (t : Bool). cond t (some p.value) (value_in ps v)) (ne_eqb p.variable v d)

pub value_in_below : (n at_least : ℕ) (ps : List Pair) (v : ℕ) → Ordered n at_least ps → v < at_least → value_in ps v ≡ none
value_in_below n at_least [] v o h = refl
value_in_below n at_least (p ∷ ps) v o h =
    value_in_past p ps v (λ q. omega (arith, o.0)) ∙ value_in_below n (p.variable + 1) ps v o.3 (omega (arith, o.0))

-- lengths
cleared_length : (row : List ℕ) (at count : ℕ) → length (cleared row at count) ≡ length row
unfolding cleared
cleared_length row at zero = refl
cleared_length row at (suc count) = cleared_length (set row at 255) (at + 1) count ∙ length-set row at 255

stored_length : (row : List ℕ) (base v value : ℕ) → length (stored row base v value) ≡ length row
unfolding stored
stored_length row base v value = go (ltb v 64)
  where
    go : (t : Bool) → length (cond t (set row (base + v) (value % 256)) row) ≡ length row
    go true = length-set row (base + v) (value % 256)
    go false = refl

filled_length : (row : List ℕ) (base : ℕ) (ps : List Pair) → length (filled row base ps) ≡ length row
unfolding filled
filled_length row base [] = refl
filled_length row base (p ∷ ps) = filled_length (stored row base p.variable p.value) base ps ∙ stored_length row base p.variable p.value

-- entries before what is written
cleared_before : (row : List ℕ) (at count i : ℕ) → i < at → get_or (cleared row at count) i 0 ≡ get_or row i 0
unfolding cleared
cleared_before row at zero i h = refl
cleared_before row at (suc count) i h =
    cleared_before (set row at 255) (at + 1) count i (omega arith) ∙ get_or-set_other row at i 255 0 (omega arith)

stored_before : (row : List ℕ) (base v value i : ℕ) → i < base → get_or (stored row base v value) i 0 ≡ get_or row i 0
unfolding stored
stored_before row base v value i h = go (ltb v 64)
  where
    go : (t : Bool) → get_or (cond t (set row (base + v) (value % 256)) row) i 0 ≡ get_or row i 0
    go true = get_or-set_other row (base + v) i (value % 256) 0 (omega arith)
    go false = refl

filled_before : (row : List ℕ) (base : ℕ) (ps : List Pair) (i : ℕ) → i < base → get_or (filled row base ps) i 0 ≡ get_or row i 0
unfolding filled
filled_before row base [] i h = refl
filled_before row base (p ∷ ps) i h =
    filled_before (stored row base p.variable p.value) base ps i h ∙ stored_before row base p.variable p.value i h

filled_rows_before : (rows : List ℕ) (base : ℕ) (lists : List (List Pair)) (i : ℕ) → i < base → get_or (filled_rows rows base lists) i 0 ≡ get_or rows i 0
unfolding filled_rows
filled_rows_before rows base [] i h = refl
filled_rows_before rows base (ps ∷ rest) i h =
    filled_rows_before (filled (cleared rows base 64) base ps) (base + 64) rest i (omega arith)
    ∙ filled_before (cleared rows base 64) base ps i h
    ∙ cleared_before rows base 64 i h

-- entries of what is written
cleared_in : (row : List ℕ) (at count i : ℕ) → at + count ≤ length row → i < count → get_or (cleared row at count) (at + i) 0 ≡ 255
unfolding cleared
cleared_in row at zero i h k = absurd (omega arith)
cleared_in row at (suc count) zero h k =
    cleared_before (set row at 255) (at + 1) count (at + 0) (omega arith)
    ∙ ap (λ (n : ℕ). get_or (set row at 255) n 0) (add-zero at)
    ∙ get_or-set_same row at 255 0 (omega arith)
cleared_in row at (suc count) (suc i) h k =
    ap (λ (n : ℕ). get_or (cleared (set row at 255) (at + 1) count) n 0) (omega arith)
    ∙ cleared_in (set row at 255) (at + 1) count i (omega (arith, length-set row at 255)) (omega arith)

stored_here : (row : List ℕ) (base v value : ℕ) → v < 64 → value < 255 → base + 64 ≤ length row → get_or (stored row base v value) (base + v) 0 ≡ value
unfolding stored
stored_here row base v value h k r = rw (lt-ltb v 64 h) (get_or-set_same row (base + v) (value % 256) 0 (omega arith) ∙ omega arith)

stored_past : (row : List ℕ) (base w value v : ℕ) → (w ≡ v → ⊥) → get_or (stored row base w value) (base + v) 0 ≡ get_or row (base + v) 0
unfolding stored
stored_past row base w value v d = go (ltb w 64)
  where
    go : (t : Bool) → get_or (cond t (set row (base + w) (value % 256)) row) (base + v) 0 ≡ get_or row (base + v) 0
    go true = get_or-set_other row (base + w) (base + v) (value % 256) 0 (λ q. d (omega arith))
    go false = refl

filled_in : (n at_least : ℕ) (row : List ℕ) (base : ℕ) (ps : List Pair) (v : ℕ) → n ≤ 64 → base + 64 ≤ length row → Ordered n at_least ps
    → get_or (filled row base ps) (base + v) 0 ≡ Option.get_or (value_in ps v) (get_or row (base + v) 0)
unfolding filled
filled_in n at_least row base [] v b r o = refl
filled_in n at_least row base (p ∷ ps) v b r o =
    go
    (filled_in n (p.variable + 1) (stored row base p.variable p.value) base ps v b (omega (arith, stored_length row base p.variable p.value)) o.3)
    (eqb p.variable v)
    refl
  where
    next : List ℕ
    next = stored row base p.variable p.value

    go : get_or (filled next base ps) (base + v) 0 ≡ Option.get_or (value_in ps v) (get_or next (base + v) 0) → (t : Bool) → eqb p.variable v ≡ t
        → get_or (filled next base ps) (base + v) 0 ≡ Option.get_or (value_in (p ∷ ps) v) (get_or row (base + v) 0)
    go rest true e =
        let here : p.variable ≡ v = eqb-true p.variable v e in
        rest
        ∙ ap (λ (x : Option ℕ). Option.get_or x (get_or next (base + v) 0)) (value_in_below n (p.variable + 1) ps v o.3 (omega arith))
        ∙ ap (λ (w : ℕ). get_or next (base + w) 0) (sym here)
        ∙ stored_here row base p.variable p.value (omega (arith, o.1)) o.2 r
        ∙ sym (ap (λ (x : Option ℕ). Option.get_or x (get_or row (base + v) 0)) (value_in_here p ps v here))
    go rest false e =
        let past : p.variable ≡ v → ⊥ = eqb-false p.variable v e in
        rest
        ∙ ap (Option.get_or (value_in ps v)) (stored_past row base p.variable p.value v past)
        ∙ sym (ap (λ (x : Option ℕ). Option.get_or x (get_or row (base + v) 0)) (value_in_past p ps v past))

-- a cleared row that is filled has the cells of the pairs
pub row_cell : (n : ℕ) (row : List ℕ) (base : ℕ) (ps : List Pair) (v : ℕ) → n ≤ 64 → v < 64 → base + 64 ≤ length row → Ordered n 0 ps
    → get_or (filled (cleared row base 64) base ps) (base + v) 0 ≡ cell_of ps v
row_cell n row base ps v b h r o =
    filled_in n 0 (cleared row base 64) base ps v b (omega (arith, cleared_length row base 64)) o
    ∙ ap (Option.get_or (value_in ps v)) (cleared_in row base 64 v r h)

pub rows_cell : (n : ℕ) (rows : List ℕ) (base : ℕ) (lists : List (List Pair)) (a v : ℕ) → n ≤ 64 → v < 64 → base + 64 * length lists ≤ length rows → a < length lists
    → ((k : ℕ) → k < length lists → Ordered n 0 (get_or lists k [])) → get_or (filled_rows rows base lists) (base + 64 * a + v) 0 ≡ cell_of (get_or lists a []) v
unfolding filled_rows
rows_cell n rows base [] a v b h r k o = absurd (omega arith)
rows_cell n rows base (ps ∷ rest) zero v b h r k o =
    filled_rows_before (filled (cleared rows base 64) base ps) (base + 64) rest (base + 64 * 0 + v) (omega arith)
    ∙ ap (λ (i : ℕ). get_or (filled (cleared rows base 64) base ps) i 0) (omega arith)
    ∙ row_cell n rows base ps v b h (omega arith) (o 0 (omega arith))
rows_cell n rows base (ps ∷ rest) (suc a) v b h r k o =
    ap (λ (i : ℕ). get_or (filled_rows (filled (cleared rows base 64) base ps) (base + 64) rest) i 0) (omega arith)
    ∙ rows_cell n (filled (cleared rows base 64) base ps) (base + 64) rest a v b h
    (omega (arith, filled_length (cleared rows base 64) base ps, cleared_length rows base 64))
    (omega arith)
    (λ i l. o (suc i) (omega arith))

-- the numbers of a row
pub row_numbers_length : (row : List ℕ) (base count : ℕ) → length (row_numbers row base count) ≡ count
unfolding row_numbers
row_numbers_length row base count = tabulate_from_length (λ (i : ℕ). get_or row (base + i) 0) 0 count

-- the pairs of a row, one cell after another
pub row_pairs_none : (row : List ℕ) (base v left : ℕ) → left ≤ 0 → row_pairs row base v left ≡ []
unfolding row_pairs
row_pairs_none row base v left h = ap (row_pairs row base v) (none_left left h)

module _ (row : List ℕ) (base v left : ℕ) {rest : ℕ} (value : ℕ) (more : left ≡ suc rest) (is : value ≡ get_or row (base + v) 0) where
  pub row_pairs_skip : value ≡ 255 → row_pairs row base v left ≡ row_pairs row base (v + 1) rest
  unfolding row_pairs
  row_pairs_skip e = ap (row_pairs row base v) more ∙ rw (eq-eqb (get_or row (base + v) 0) 255 (sym is ∙ e)) refl

  pub row_pairs_next : (value ≡ 255 → ⊥) → row_pairs row base v left ≡ pair v value ∷ row_pairs row base (v + 1) rest
  unfolding row_pairs
  row_pairs_next d =
      ap (row_pairs row base v) more
      ∙ rw (ne_eqb (get_or row (base + v) 0) 255 (λ q. d (is ∙ q))) (ap (λ (n : ℕ). pair v n ∷ row_pairs row base (v + 1) rest) (sym is))

-- as many pairs as there are cells with one
abbrev pub has_pair : ℕ → Bool
has_pair x = not (nat_eq x 255)

pub row_pairs_counted : (row : List ℕ) (base v count : ℕ) → base + v + count ≤ length row → length (row_pairs row base v count) ≡ count_by has_pair (take count (drop (base + v) row))
unfolding row_pairs
row_pairs_counted row base v zero h = refl
row_pairs_counted row base v (suc count) h =
    let k : ℕ = base + v in
    let inside : k < length row = omega arith in
    let past : base + (v + 1) ≡ suc k = omega arith in
    let rest : length (row_pairs row base (v + 1) count) ≡ count_by has_pair (take count (drop (suc k) row)) =
    row_pairs_counted row base (v + 1) count (omega arith) ∙ ap (λ (n : ℕ). count_by has_pair (take count (drop n row))) past in
    go (eqb (get_or row k 0) 255) rest
    ∙ sym (ap (λ (l : List ℕ). count_by has_pair (take (suc count) l)) (drop-cons row k 0 inside) ∙ sum_by-cons (λ x. cond (has_pair x) 1 0) (get_or row k 0) (take count (drop (suc k) row)))
  where
    go : (t : Bool) → length (row_pairs row base (v + 1) count) ≡ count_by has_pair (take count (drop (suc (base + v)) row))
        → length (cond t (row_pairs row base (v + 1) count) (pair v (get_or row (base + v) 0) ∷ row_pairs row base (v + 1) count)) ≡ cond (not t) 1 0 + count_by has_pair (take count (drop (suc (base + v)) row))
    go true e = omega (arith, e)
    go false e = omega (arith, e)

-- a row with the cells of pairs holds just those pairs
Ordered_from : (n at_least next : ℕ) (ps : List Pair) → Ordered n at_least ps → ((p : Pair) → at_least ≤ p.variable → next ≤ p.variable) → Ordered n next ps
Ordered_from n at_least next [] o h = tt
Ordered_from n at_least next (p ∷ ps) o h = (h p o.0, o.1, o.2, o.3)

pub row_pairs_is : (n : ℕ) (row : List ℕ) (base v count : ℕ) (ps : List Pair) → v + count ≡ n → Ordered n v ps
    → ((w : ℕ) → v ≤ w → w < n → get_or row (base + w) 0 ≡ cell_of ps w) → row_pairs row base v count ≡ ps
unfolding row_pairs
row_pairs_is n row base v zero [] e o h = refl
row_pairs_is n row base v zero (p ∷ ps) e o h = absurd (omega (arith, o.0, o.1))
row_pairs_is n row base v (suc count) [] e o h =
    row_pairs_skip row base v (suc count) 255 refl (sym (h v (omega arith) (omega arith))) refl
    ∙ row_pairs_is n row base (v + 1) count [] (omega arith) tt (λ w a b. h w (omega arith) b)
row_pairs_is n row base v (suc count) (p ∷ ps) e o h =
    go
    (λ o' h'. row_pairs_is n row base (v + 1) count ps (omega arith) o' h')
    (λ o' h'. row_pairs_is n row base (v + 1) count (p ∷ ps) (omega arith) o' h')
    (eqb p.variable v)
    refl
  where
    go : (Ordered n (v + 1) ps → ((w : ℕ) → v + 1 ≤ w → w < n → get_or row (base + w) 0 ≡ cell_of ps w) → row_pairs row base (v + 1) count ≡ ps)
        → (Ordered n (v + 1) (p ∷ ps) → ((w : ℕ) → v + 1 ≤ w → w < n → get_or row (base + w) 0 ≡ cell_of (p ∷ ps) w) → row_pairs row base (v + 1) count ≡ p ∷ ps)
        → (t : Bool) → eqb p.variable v ≡ t → row_pairs row base v (suc count) ≡ p ∷ ps
    go rest more true q =
        let here : p.variable ≡ v = eqb-true p.variable v q in
        let entry : get_or row (base + v) 0 ≡ p.value =
        h v (omega arith) (omega (arith, o.1)) ∙ ap (λ (x : Option ℕ). Option.get_or x 255) (value_in_here p ps v here) in
        row_pairs_next row base v (suc count) p.value refl (sym entry) (λ z. omega (arith, o.2))
        ∙ ap₂ (λ (w : ℕ) (l : List Pair). pair w p.value ∷ l) (sym here)
        (rest
        (Ordered_from n (p.variable + 1) (v + 1) ps o.3 (λ r l. omega arith))
        (λ w a b. h w (omega arith) b ∙ ap (λ (x : Option ℕ). Option.get_or x 255) (value_in_past p ps w (λ z. omega arith))))
    go rest more false q =
        let past : p.variable ≡ v → ⊥ = eqb-false p.variable v q in
        let above : v + 1 ≤ p.variable = omega (arith, o.0) in
        let entry : get_or row (base + v) 0 ≡ 255 =
        h v (omega arith) (omega (arith, o.1))
        ∙ ap (λ (x : Option ℕ). Option.get_or x 255) (value_in_past p ps v past ∙ value_in_below n (p.variable + 1) ps v o.3 (omega arith)) in
        row_pairs_skip row base v (suc count) 255 refl (sym entry) refl
        ∙ more (above, o.1, o.2, o.3) (λ w a b. h w (omega arith) b)
