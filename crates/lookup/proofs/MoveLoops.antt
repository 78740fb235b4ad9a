-- The moves of the actions: what a variable adds to the sums of a step, and one move more.
use Prim.Native.Nat.{ℕ, ◌+◌, ◌*◌, ◌≤◌, ◌<◌}
use mathlib.Core.Path.{◌≡◌, refl, sym, ap, ap₂, subst, ◌∙◌}
use mathlib.Core.Bool.{Bool, cond, ◌&&◌, ◌||◌}
use mathlib.Core.List.{List}
use native.Mathlib.Omega.{arith}
use native.Mathlib.Nat.{mul_comm, mul-le-mul_left}
use native.Mathlib.Numerals.{add-one}
use lib.Dec.{eqb, ltb}
use lib.ListN.{length, get_or, set}
use lib.Seq.{get_or-set_same, get_or-set_other}
use borrow.Author.Tests.{eq-eqb, ne_eqb, lt-ltb, le-ltb}
use Rattle.files.proofs.Logic.{split_le, cond_case}
use Rattle.plans.specs.State.{State}
use Rattle.lookup.specs.Moves.{row_weight, weighted, set_by, asked_of, set_freely, WeightsOf, SumsOf, no_move, MoveOf, MovesIn}
use Rattle.lookup.specs.declared.moves.Move.{Move}
use Rattle.bits.specs.Sets.{in_word, WordOf}

-- a product that fits
pub product_most : (a b : ℕ) → a ≤ 4096 → b < 256 → a * b ≤ 1048576
product_most a b h k = omega (arith, mul-le-mul_left a (let l : b ≤ 256 = omega arith in l), mul_comm a 256, mul-le-mul_left 256 h)

-- a cell's value, 0 without one
pub cell_none : (cell : ℕ) → cell ≡ 255 → 0 ≡ cond (eqb cell 255) 0 cell
cell_none cell e = sym (rw (eq-eqb cell 255 e) refl)

pub cell_some : (cell : ℕ) → (cell ≡ 255 → ⊥) → cell ≡ cond (eqb cell 255) 0 cell
cell_some cell d = sym (rw (ne_eqb cell 255 d) refl)

pub asked_none : (condition effect : ℕ) → effect ≡ 255 → 0 ≡ cond (eqb effect 255 || eqb condition 255) 0 condition
asked_none condition effect e = sym (rw (eq-eqb effect 255 e) refl)

pub asked_some : (condition effect r : ℕ) → (effect ≡ 255 → ⊥) → r ≡ cond (eqb condition 255) 0 condition → r ≡ cond (eqb effect 255 || eqb condition 255) 0 condition
asked_some condition effect r d e = sym (rw (ne_eqb effect 255 d) (sym e))

-- what a cell adds to a sum is small
pub cell_product : (weight cell : ℕ) (b : Bool) (x : ℕ) → weight ≤ 4096 → cell < 256 → x ≡ cond b 0 cell → weight * x ≤ 1048576
cell_product weight cell b x light few e =
    product_most weight x light (subst (λ (n : ℕ). n < 256) (sym e) (cond_case (λ (n : ℕ). n < 256) b 0 cell (λ z. omega arith) (λ z. few)))

-- one variable more in a sum
pub weighted_next : (sizes : List ℕ) (s : State) (v w x total : ℕ) → w ≡ row_weight sizes v → x ≡ s v → total ≡ weighted sizes s v → w * x + total ≡ weighted sizes s (v + 1)
unfolding weighted
weighted_next sizes s v w x total e f g = (λ i. e i * f i + g i) ∙ sym (ap (weighted sizes s) (add-one v))

module _ (variables base : ℕ) (weights conditions effects : List ℕ) where
  -- the sums of the variables before v
  pub record Summing (v set asked : ℕ) : Type 0 where
    pub within : v ≤ variables
    pub set_few : set ≤ 1048576 * v
    pub asked_few : asked ≤ 1048576 * v
    pub is : (sizes : List ℕ) → WeightsOf variables sizes weights → SumsOf v base sizes conditions effects set asked

  pub sums_begin : Summing 0 0 0
  unfolding weighted
  sums_begin = record { within = omega arith; set_few = omega arith; asked_few = omega arith; is = λ sizes h. record { set_is = refl; asked_is = refl } }

  module _ (v effect condition : ℕ) (effect_is : effect ≡ get_or effects (base + v) 0) (condition_is : condition ≡ get_or conditions (base + v) 0) (effect_few : effect < 256) (condition_few : condition < 256)
      (light : get_or weights v 0 ≤ 4096) where
    set_at : (x : ℕ) → x ≡ cond (eqb effect 255) 0 effect → x ≡ set_by effects base v
    unfolding set_by
    set_at x x_is = x_is ∙ ap (λ (n : ℕ). cond (eqb n 255) 0 n) effect_is

    asked_at : (y : ℕ) → y ≡ cond (eqb effect 255 || eqb condition 255) 0 condition → y ≡ asked_of conditions effects base v
    unfolding asked_of
    asked_at y y_is = y_is ∙ ap₂ (λ (n m : ℕ). cond (eqb n 255 || eqb m 255) 0 m) effect_is condition_is

    pub sums_next : (set asked x y : ℕ) → x ≡ cond (eqb effect 255) 0 effect → y ≡ cond (eqb effect 255 || eqb condition 255) 0 condition → v < variables → Summing v set asked
        → Summing (v + 1) (get_or weights v 0 * x + set) (get_or weights v 0 * y + asked)
    sums_next set asked x y x_is y_is h c =
        record {
          within = omega arith;
          set_few = omega (arith, cell_product (get_or weights v 0) effect (eqb effect 255) x light effect_few x_is, c.set_few);
          asked_few = omega (arith, cell_product (get_or weights v 0) condition (eqb effect 255 || eqb condition 255) y light condition_few y_is, c.asked_few);
          is = λ sizes weight.
              record {
                set_is = weighted_next sizes (set_by effects base) v _ x set (weight v h) (set_at x x_is) (c.is sizes weight).set_is;
                asked_is = weighted_next sizes (asked_of conditions effects base) v _ y asked (weight v h) (asked_at y y_is) (c.is sizes weight).asked_is;
              };
        }

  pub sums_end : (v set asked : ℕ) → Summing v set asked → variables ≤ v → (sizes : List ℕ) → WeightsOf variables sizes weights → SumsOf variables base sizes conditions effects set asked
  sums_end v set asked c l sizes weight =
      let last : v ≡ variables = omega (arith, c.within) in
      subst (λ (n : ℕ). SumsOf n base sizes conditions effects set asked) last (c.is sizes weight)

-- the word of the variables that a step sets freely
pub freely_word : (conditions effects : List ℕ) (base variables word : ℕ) (passes : ℕ → Bool → Type 0) → WordOf passes variables word
    → ((v : ℕ) (b : Bool) → passes v b → b ≡ set_freely conditions effects base v) → (v : ℕ) → in_word word v ≡ ltb v variables && set_freely conditions effects base v
freely_word conditions effects base variables word passes w means v =
    split_le variables v
    (λ l. w.none v l ∙ sym (ap (λ (b : Bool). b && set_freely conditions effects base v) (le-ltb v variables l)))
    (λ l.
    means v (in_word word v) (w.has v l)
    ∙ sym (ap (λ (b : Bool). b && set_freely conditions effects base v) (lt-ltb v variables l)))

-- one move more
pub moves_next : (variables a : ℕ) (sizes conditions effects : List ℕ) (moves : List Move) (m : Move) → a < length moves → MovesIn variables a sizes conditions effects moves
    → MoveOf variables (64 * a) sizes conditions effects m → MovesIn variables (a + 1) sizes conditions effects (set moves a m)
moves_next variables a sizes conditions effects moves m room before here b h =
    split_le a b
    (λ l.
    let is : a ≡ b = omega arith in
    subst (λ (n : ℕ). MoveOf variables (64 * n) sizes conditions effects (get_or (set moves a m) n no_move)) is
    (subst (MoveOf variables (64 * a) sizes conditions effects) (sym (get_or-set_same moves a m no_move room)) here))
    (λ l.
    let apart : b ≡ a → ⊥ = λ e. absurd (omega arith) in
    subst (MoveOf variables (64 * b) sizes conditions effects) (sym (get_or-set_other moves a b m no_move apart)) (before b l))
