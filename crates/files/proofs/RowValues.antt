-- What a row's pairs say of a variable is what its cell says; and rows with the same cells hold the same pairs.
use Prim.Native.Nat.{ℕ, zero, suc, ◌+◌, ◌≤◌, ◌<◌}
use mathlib.Core.Path.{◌≡◌, refl, sym, ap, ◌∙◌}
use mathlib.Core.Bool.{Bool, cond}
use mathlib.Core.List.{List, ◌∷◌}
use mathlib.Core.Option.{Option, none, some}
use native.Mathlib.Omega.{arith}
use lib.ListN.{get_or}
use lib.Dec.{eqb}
use borrow.Author.Tests.{eqb-true, eqb-false}
use Rattle.files.specs.Task.{Pair, pair, value_in}
use Rattle.files.specs.Dense.{row_pairs}
use Rattle.files.proofs.Logic.{split, split_le}
use Rattle.files.proofs.RowLaws.{value_in_here, value_in_past, row_pairs_skip, row_pairs_next}

-- an entry as a value: 255 is none
abbrev pub cell_value : ℕ → Option ℕ
cell_value cell = cond (eqb cell 255) none (some cell)

module _ (row : List ℕ) (base : ℕ) where
  -- variables before the row's part have no pair in it
  row_pairs_before : (v count w : ℕ) → w < v → value_in (row_pairs row base v count) w ≡ none
  unfolding row_pairs
  row_pairs_before v zero w h = refl
  row_pairs_before v (suc count) w h =
      let later = row_pairs_before (v + 1) count w (omega arith) in
      split (eqb (get_or row (base + v) 0) 255)
      (λ e. ap (λ (l : List Pair). value_in l w) (row_pairs_skip row base v (suc count) (get_or row (base + v) 0) refl refl (eqb-true (get_or row (base + v) 0) 255 e)) ∙ later)
      (λ e.
      ap (λ (l : List Pair). value_in l w) (row_pairs_next row base v (suc count) (get_or row (base + v) 0) refl refl (eqb-false (get_or row (base + v) 0) 255 e))
      ∙ value_in_past (pair v (get_or row (base + v) 0)) (row_pairs row base (v + 1) count) w (λ q. omega arith)
      ∙ later)

  -- nor have those behind it
  pub row_pairs_behind : (v count w : ℕ) → v + count ≤ w → value_in (row_pairs row base v count) w ≡ none
  unfolding row_pairs
  row_pairs_behind v zero w h = refl
  row_pairs_behind v (suc count) w h =
      let later = row_pairs_behind (v + 1) count w (omega arith) in
      split (eqb (get_or row (base + v) 0) 255)
      (λ e. ap (λ (l : List Pair). value_in l w) (row_pairs_skip row base v (suc count) (get_or row (base + v) 0) refl refl (eqb-true (get_or row (base + v) 0) 255 e)) ∙ later)
      (λ e.
      ap (λ (l : List Pair). value_in l w) (row_pairs_next row base v (suc count) (get_or row (base + v) 0) refl refl (eqb-false (get_or row (base + v) 0) 255 e))
      ∙ value_in_past (pair v (get_or row (base + v) 0)) (row_pairs row base (v + 1) count) w (λ q. omega arith)
      ∙ later)

  pub row_pairs_value : (v count w : ℕ) → v ≤ w → w < v + count → value_in (row_pairs row base v count) w ≡ cell_value (get_or row (base + w) 0)
  row_pairs_value v zero w a b = absurd (omega arith)
  row_pairs_value v (suc count) w a b =
      split_le w v
      (λ l. here (omega arith))
      (λ l. past l (row_pairs_value (v + 1) count w (omega arith) (omega arith)))
    where
      x : ℕ
      x = get_or row (base + v) 0

      here : v ≡ w → value_in (row_pairs row base v (suc count)) w ≡ cell_value (get_or row (base + w) 0)
      here e =
          split (eqb x 255)
          (λ q.
          ap (λ (l : List Pair). value_in l w) (row_pairs_skip row base v (suc count) x refl refl (eqb-true x 255 q))
          ∙ row_pairs_before (v + 1) count w (omega arith)
          ∙ sym (ap (λ (t : Bool). cond t none (some x)) q)
          ∙ ap (λ (u : ℕ). cell_value (get_or row (base + u) 0)) e)
          (λ q.
          ap (λ (l : List Pair). value_in l w) (row_pairs_next row base v (suc count) x refl refl (eqb-false x 255 q))
          ∙ value_in_here (pair v x) (row_pairs row base (v + 1) count) w e
          ∙ sym (ap (λ (t : Bool). cond t none (some x)) q)
          ∙ ap (λ (u : ℕ). cell_value (get_or row (base + u) 0)) e)

      past : v < w → value_in (row_pairs row base (v + 1) count) w ≡ cell_value (get_or row (base + w) 0) → value_in (row_pairs row base v (suc count)) w ≡ cell_value (get_or row (base + w) 0)
      past l later =
          split (eqb x 255)
          (λ q. ap (λ (l : List Pair). value_in l w) (row_pairs_skip row base v (suc count) x refl refl (eqb-true x 255 q)) ∙ later)
          (λ q.
          ap (λ (l : List Pair). value_in l w) (row_pairs_next row base v (suc count) x refl refl (eqb-false x 255 q))
          ∙ value_in_past (pair v x) (row_pairs row base (v + 1) count) w (λ z. omega arith)
          ∙ later)

-- a row of n cells that copies k cells of another, with no pair behind them
pub row_pairs_copied : (row other : List ℕ) (from to v k n : ℕ) → k ≤ n
    → ((w : ℕ) → v ≤ w → w < v + k → get_or row (to + w) 0 ≡ get_or other (from + w) 0)
    → ((w : ℕ) → v + k ≤ w → w < v + n → get_or row (to + w) 0 ≡ 255)
    → row_pairs row to v n ≡ row_pairs other from v k
unfolding row_pairs
row_pairs_copied row other from to v zero zero h s b = refl
row_pairs_copied row other from to v (suc k) zero h s b = absurd (omega arith)
row_pairs_copied row other from to v zero (suc n) h s b =
    row_pairs_skip row to v (suc n) (get_or row (to + v) 0) refl refl (b v (omega arith) (omega arith))
    ∙ row_pairs_copied row other from to (v + 1) zero n (omega arith) (λ w x y. absurd (omega arith)) (λ w x y. b w (omega arith) (omega arith))
row_pairs_copied row other from to v (suc k) (suc n) h s b =
    let rest : row_pairs row to (v + 1) n ≡ row_pairs other from (v + 1) k =
    row_pairs_copied row other from to (v + 1) k n (omega arith) (λ w x y. s w (omega arith) (omega arith)) (λ w x y. b w (omega arith) (omega arith)) in
    let same : get_or row (to + v) 0 ≡ get_or other (from + v) 0 = s v (omega arith) (omega arith) in
    let x = get_or other (from + v) 0 in
    split (eqb x 255)
    (λ e.
    row_pairs_skip row to v (suc n) x refl (sym same) (eqb-true x 255 e)
    ∙ rest
    ∙ sym (row_pairs_skip other from v (suc k) x refl refl (eqb-true x 255 e)))
    (λ e.
    row_pairs_next row to v (suc n) x refl (sym same) (eqb-false x 255 e)
    ∙ ap (λ (l : List Pair). pair v x ∷ l) rest
    ∙ sym (row_pairs_next other from v (suc k) x refl refl (eqb-false x 255 e)))
