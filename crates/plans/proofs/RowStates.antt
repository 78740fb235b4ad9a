-- Rows of cells and states: all conditions of a row hold where each cell is met, step by step; and the effects of a row
-- change each value by itself. First for the row at a place of a list, and then for a row of its own.
use Prim.Native.Nat.{ℕ, zero, suc, ◌+◌, ◌≤◌, ◌<◌}
use mathlib.Core.Path.{◌≡◌, refl, sym, ap, ap₂, subst, ◌∙◌}
use mathlib.Core.Bool.{Bool, true, cond, ◌&&◌}
use mathlib.Core.List.{List, []}
use mathlib.Core.Option
use mathlib.Core.Option.{Option, none, some}
use native.Mathlib.Omega.{arith}
use lib.ListN.{length, get_or, drop, drop_of_length-le, get_or-eq_default}
use lib.Seq.{drop-cons}
use lib.Dec.{eqb}
use denote.Param.Members.{Mut}
use Rattle.std.specs.Fn.{Called}
use Rattle.std.specs.List.{list_all, zip}
use Rattle.std.specs.Array.{IsFromFnResult, IsFromFnResultFrom}
use borrow.Author.Tests.{eqb-true, eqb-false, eq-eqb, ne_eqb}
use Rattle.files.specs.Below.{all_below}
use Rattle.files.specs.Task.{Pair, Action, pair, value_in}
use Rattle.files.specs.Dense.{row_pairs}
use Rattle.files.proofs.BelowLaws.{all_below_intro, all_below_elim}
use Rattle.files.proofs.Logic.{split, split_le, and_split, and_join}
use Rattle.files.proofs.RowLaws.{row_pairs_skip, row_pairs_next}
use Rattle.files.proofs.RowValues.{cell_value, row_pairs_value, row_pairs_behind}
use Rattle.files.proofs.Truth.{same_truth}
use Rattle.plans.specs.State.{State, holds, all_hold, apply}
use Rattle.plans.specs.Tally.{list_state, meets_cell, after_cell}
use Rattle.plans.proofs.AdmitsLaws.{admits_is}

-- cells
pub meets_none : (condition value : ℕ) → condition ≡ 255 → true ≡ meets_cell condition value
unfolding meets_cell
meets_none condition value e = rw (eq-eqb condition 255 e) refl

pub meets_some : (condition value : ℕ) → (condition ≡ 255 → ⊥) → eqb condition value ≡ meets_cell condition value
unfolding meets_cell
meets_some condition value d = rw (ne_eqb condition 255 d) refl

pub after_none : (effect value : ℕ) → effect ≡ 255 → value ≡ after_cell effect value
unfolding after_cell
after_none effect value e = rw (eq-eqb effect 255 e) refl

pub after_some : (effect value : ℕ) → (effect ≡ 255 → ⊥) → effect ≡ after_cell effect value
unfolding after_cell
after_some effect value d = rw (ne_eqb effect 255 d) refl

-- the row at `base`
module _ (row : List ℕ) (base : ℕ) (s : State) where
  -- whether the value of variable v meets its cell
  abbrev pub meets_at : ℕ → Bool
  meets_at v = meets_cell (get_or row (base + v) 0) (s v)

  hold_more : (v left rest : ℕ) → left ≡ suc rest → all_hold (row_pairs row base v left) s ≡ meets_at v && all_hold (row_pairs row base (v + 1) rest) s
  unfolding all_hold holds
  hold_more v left rest more =
      let x = get_or row (base + v) 0 in
      let later : Bool = all_hold (row_pairs row base (v + 1) rest) s in
      split (eqb x 255)
      (λ e.
      ap (λ (l : List Pair). all_hold l s) (row_pairs_skip row base v left x more refl (eqb-true x 255 e))
      ∙ ap (λ (t : Bool). t && later) (meets_none x (s v) (eqb-true x 255 e)))
      (λ e.
      ap (λ (l : List Pair). all_hold l s) (row_pairs_next row base v left x more refl (eqb-false x 255 e))
      ∙ ap (λ (t : Bool). t && later) (admits_is (pair v x) (s v) ∙ meets_some x (s v) (eqb-false x 255 e)))

  -- all hold where each cell is met
  held_at : (v count w : ℕ) → all_hold (row_pairs row base v count) s ≡ true → v ≤ w → w < v + count → meets_at w ≡ true
  held_at v zero w e a b = absurd (omega arith)
  held_at v (suc count) w e a b =
      let both = and_split (meets_at v) (all_hold (row_pairs row base (v + 1) count) s) (sym (hold_more v (suc count) count refl) ∙ e) in
      split_le w v
      (λ l. let is : w ≡ v = omega arith in rw is both.0)
      (λ l. held_at (v + 1) count w both.1 (omega arith) (omega arith))

  held_all : (v count : ℕ) → ((w : ℕ) → v ≤ w → w < v + count → meets_at w ≡ true) → all_hold (row_pairs row base v count) s ≡ true
  unfolding all_hold row_pairs
  held_all v zero h = refl
  held_all v (suc count) h =
      hold_more v (suc count) count refl
      ∙ and_join (h v (omega arith) (omega arith)) (held_all (v + 1) count (λ w a b. h w (omega arith) (omega arith)))

  pub hold_below : (n : ℕ) → all_hold (row_pairs row base 0 n) s ≡ all_below n meets_at
  hold_below n =
      same_truth (all_hold (row_pairs row base 0 n) s) (all_below n meets_at)
      (λ e. all_below_intro n meets_at (λ v h. held_at 0 n v e (omega arith) (omega arith)))
      (λ e. held_all 0 n (λ v a b. all_below_elim n meets_at e v (omega arith)))

  -- the state after the effects of the row
  abbrev pub after_row : State
  after_row v = after_cell (get_or row (base + v) 0) (s v)

  row_value : (n v : ℕ) → v < n → Option.get_or (value_in (row_pairs row base 0 n) v) (s v) ≡ after_row v
  row_value n v h =
      let x = get_or row (base + v) 0 in
      let found : value_in (row_pairs row base 0 n) v ≡ cell_value x = row_pairs_value row base 0 n v (omega arith) (omega arith) in
      split (eqb x 255)
      (λ e. ap (λ (o : Option ℕ). Option.get_or o (s v)) (found ∙ ap (λ (t : Bool). cond t none (some x)) e) ∙ after_none x (s v) (eqb-true x 255 e))
      (λ e. ap (λ (o : Option ℕ). Option.get_or o (s v)) (found ∙ ap (λ (t : Bool). cond t none (some x)) e) ∙ after_some x (s v) (eqb-false x 255 e))

  row_behind : (n v : ℕ) → n ≤ v → Option.get_or (value_in (row_pairs row base 0 n) v) (s v) ≡ s v
  row_behind n v h = ap (λ (o : Option ℕ). Option.get_or o (s v)) (row_pairs_behind row base 0 n v (omega arith))

  pub apply_row : (a : Action) (n v : ℕ) → a.effects ≡ row_pairs row base 0 n → v < n → apply a s v ≡ after_row v
  unfolding apply
  apply_row a n v is h = ap (λ (l : List Pair). Option.get_or (value_in l v) (s v)) is ∙ row_value n v h

  pub apply_behind : (a : Action) (n v : ℕ) → a.effects ≡ row_pairs row base 0 n → n ≤ v → apply a s v ≡ s v
  unfolding apply
  apply_behind a n v is h = ap (λ (l : List Pair). Option.get_or (value_in l v) (s v)) is ∙ row_behind n v h

-- a row of its own
pub effect_cell : (row : List ℕ) (value w : ℕ) → w < 64 → after_cell (get_or row w 0) value ≡ Option.get_or (value_in (row_pairs row 0 0 64) w) value
effect_cell row value w h = ap (λ (n : ℕ). after_cell (get_or row n 0) value) (omega arith) ∙ sym (row_value row 0 (λ u. value) 64 w h)

-- the state after all effects, cell by cell
pub effects_applied : (row state next : List ℕ) → length next ≡ 64 → length state ≡ 64
    → ((w : ℕ) → w < 64 → get_or next w 0 ≡ after_cell (get_or row w 0) (get_or state w 0))
    → (w : ℕ) → get_or next w 0 ≡ Option.get_or (value_in (row_pairs row 0 0 64) w) (get_or state w 0)
effects_applied row state next a b h w =
    split_le 64 w
    (λ l. get_or-eq_default next 0 (omega arith) ∙ sym (row_behind row 0 (λ u. get_or state w 0) 64 w l ∙ get_or-eq_default state 0 (omega arith)))
    (λ l. h w l ∙ effect_cell row (get_or state w 0) w l)

-- a list that is made cell by cell, by calls of a function
module _ {F : Type 0} (g : Mut F (ℕ × Unit {0}) ℕ) (f : F) (h : ℕ → ℕ) (calls : (i y : ℕ) (q : F) → Called g f (i, tt) y q → (q ≡ f) × (y ≡ h i)) where
  made_from : (ys : List ℕ) (i n : ℕ) → IsFromFnResultFrom g f ys i n → (w : ℕ) → i ≤ w → w < i + n → get_or ys w 0 ≡ h w
  made_from ys i zero m w a b = absurd (omega arith)
  made_from ys i (suc n) m w a b =
      let call = calls i m.1 m.0 m.3 in
      split_le w i
      (λ l. let here : w ≡ i = omega arith in rw here (m.2.1 0 ∙ call.1))
      (λ l. made_from ys (i + 1) n (subst (λ (q : F). IsFromFnResultFrom g q ys (i + 1) n) call.0 m.4) w (omega arith) (omega arith))

  pub made_of : (ys : List ℕ) (n : ℕ) → IsFromFnResult g f ys n → (w : ℕ) → w < n → get_or ys w 0 ≡ h w
  made_of ys n m w b = made_from ys 0 n m.each w (omega arith) (omega arith)
