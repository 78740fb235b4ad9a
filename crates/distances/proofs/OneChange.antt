-- States of arrays and their numbers: the two ways between them, and a state with one value changed.
use Prim.Native.Nat.{ℕ, zero, suc, ◌+◌, ◌-◌, ◌*◌, ◌≤◌, ◌<◌}
use mathlib.Core.Path.{◌≡◌, refl, sym, ap, ap₂, subst, ◌∙◌}
use mathlib.Core.Bool.{Bool, cond}
use mathlib.Core.List.{List, []}
use native.Mathlib.Omega.{arith}
use lib.Dec.{eqb}
use lib.ListN.{get_or}
use borrow.Author.Tests.{eq-eqb, ne_eqb}
use Rattle.files.proofs.Logic.{split_le}
use Rattle.plans.specs.State.{State}
use Rattle.distances.specs.States.{state_at}
use Rattle.distances.specs.Rows.{row_variables, row_states, row_state}
use Rattle.lookup.specs.Moves.{row_weight, weighted}
use Rattle.distances.proofs.Radix.{number_below, state_in, state_past, number_of_state, state_of_number}
use Rattle.distances.proofs.RowNumbers.{RowSizes, RowInside, number_sum, states_count, row_length, row_sizes, row_inside, inside_row}

-- a state with the value z of variable v
abbrev pub changed : State → ℕ → ℕ → State
changed s v z w = cond (eqb w v) z (s w)

pub changed_here : (s : State) (v z : ℕ) → changed s v z v ≡ z
changed_here s v z = ap (λ (t : Bool). cond t z (s v)) (eq-eqb v v refl)

pub changed_other : (s : State) (v z w : ℕ) → (w ≡ v → ⊥) → changed s v z w ≡ s w
changed_other s v z w d = ap (λ (t : Bool). cond t z (s w)) (ne_eqb w v d)

module _ (sizes : List ℕ) where
  pub weighted_alike : (s t : State) (n : ℕ) → ((v : ℕ) → v < n → s v ≡ t v) → weighted sizes s n ≡ weighted sizes t n
  unfolding weighted
  weighted_alike s t zero h = refl
  weighted_alike s t (suc n) h = ap₂ ◌+◌ (ap (λ (x : ℕ). row_weight sizes n * x) (h n (omega arith))) (weighted_alike s t n (λ v l. h v (omega arith)))

  weighted_changed : (s : State) (v z n : ℕ) → v < n → weighted sizes (changed s v z) n + row_weight sizes v * s v ≡ weighted sizes s n + row_weight sizes v * z
  unfolding weighted
  weighted_changed s v z zero h = absurd (omega arith)
  weighted_changed s v z (suc n) h =
      split_le n v
      (λ l.
      let is : n ≡ v = omega arith in
      let before : weighted sizes (changed s v z) n ≡ weighted sizes s n = weighted_alike (changed s v z) s n (λ u k. changed_other s v z u (λ e. omega arith)) in
      let new : row_weight sizes n * changed s v z n ≡ row_weight sizes v * z = ap (λ (u : ℕ). row_weight sizes u * changed s v z u) is ∙ ap (λ (x : ℕ). row_weight sizes v * x) (changed_here s v z) in
      let old : row_weight sizes n * s n ≡ row_weight sizes v * s v = ap (λ (u : ℕ). row_weight sizes u * s u) is in
      omega arith)
      (λ l.
      let here : row_weight sizes n * changed s v z n ≡ row_weight sizes n * s n = ap (λ (x : ℕ). row_weight sizes n * x) (changed_other s v z n (λ e. omega arith)) in
      omega (arith, weighted_changed s v z n l))

  pub weighted_least : (s : State) (v n : ℕ) → v < n → row_weight sizes v * s v ≤ weighted sizes s n
  unfolding weighted
  weighted_least s v zero h = absurd (omega arith)
  weighted_least s v (suc n) h =
      split_le n v
      (λ l.
      let is : n ≡ v = omega arith in
      let here : row_weight sizes n * s n ≡ row_weight sizes v * s v = ap (λ (u : ℕ). row_weight sizes u * s u) is in
      omega arith)
      (λ l. omega (arith, weighted_least s v n l))

-- states of numbers
module _ (sizes : List ℕ) (n : ℕ) (positive : RowSizes n sizes) where
  pub state_inside : (number : ℕ) → RowInside n sizes (row_state n sizes number)
  unfolding row_state
  state_inside number = inside_row sizes [] n (state_at (row_variables n sizes []) number) (state_in (row_variables n sizes []) number (row_sizes sizes [] n positive))

  pub state_behind : (number v : ℕ) → n ≤ v → row_state n sizes number v ≡ 0
  unfolding row_state
  state_behind number v h = state_past (row_variables n sizes []) number v (omega (arith, row_length sizes [] n))

  pub number_weights : (number : ℕ) → number < row_states n sizes → weighted sizes (row_state n sizes number) n ≡ number
  unfolding row_state
  number_weights number h =
      sym (number_sum sizes [] (state_at (row_variables n sizes []) number) n)
      ∙ number_of_state (row_variables n sizes []) number (row_sizes sizes [] n positive) (omega (arith, states_count sizes [] n))

  pub weights_state : (s : State) → RowInside n sizes s → ((v : ℕ) → n ≤ v → s v ≡ 0) → row_state n sizes (weighted sizes s n) ≡ s
  unfolding row_state
  weights_state s h z =
      ap (state_at (row_variables n sizes [])) (sym (number_sum sizes [] s n))
      ∙ state_of_number (row_variables n sizes []) s (row_inside sizes [] n s h) (λ v l. z v (omega (arith, row_length sizes [] n)))

  pub weights_below : (s : State) → RowInside n sizes s → weighted sizes s n < row_states n sizes
  weights_below s h =
      omega (arith, number_sum sizes [] s n, states_count sizes [] n, number_below (row_variables n sizes []) s (row_inside sizes [] n s h))

  -- states that agree have the same number
  pub same_number : (m k : ℕ) → m < row_states n sizes → k < row_states n sizes → ((v : ℕ) → v < n → row_state n sizes m v ≡ row_state n sizes k v) → m ≡ k
  same_number m k a b h = sym (number_weights m a) ∙ weighted_alike sizes (row_state n sizes m) (row_state n sizes k) n h ∙ number_weights k b

  -- what a value adds is in the number
  pub value_least : (number v : ℕ) → number < row_states n sizes → v < n → row_weight sizes v * row_state n sizes number v ≤ number
  value_least number v below h = omega (arith, weighted_least sizes (row_state n sizes number) v n h, number_weights number below)

  -- the number with one value changed
  module _ (number v z : ℕ) (below : number < row_states n sizes) (h : v < n) (inside : z < get_or sizes v 0) where
    s : State
    s = row_state n sizes number

    change_inside : RowInside n sizes (changed s v z)
    unfolding s
    change_inside w l =
        split_le w v
        (λ a.
        split_le v w
        (λ b. let is : v ≡ w = omega arith in subst (λ (u : ℕ). changed s v z u < get_or sizes u 0) is (omega (arith, changed_here s v z)))
        (λ b. omega (arith, changed_other s v z w (λ e. omega arith), state_inside number w l)))
        (λ a. omega (arith, changed_other s v z w (λ e. omega arith), state_inside number w l))

    change_behind : (w : ℕ) → n ≤ w → changed s v z w ≡ 0
    unfolding s
    change_behind w l = changed_other s v z w (λ e. omega arith) ∙ state_behind number w l

    change_number : number - row_weight sizes v * row_state n sizes number v + row_weight sizes v * z ≡ weighted sizes (changed s v z) n
    unfolding s
    change_number = omega (arith, value_least number v below h, weighted_changed sizes s v z n h, number_weights number below)

    pub change_below : number - row_weight sizes v * row_state n sizes number v + row_weight sizes v * z < row_states n sizes
    change_below = omega (arith, change_number, weights_below (changed s v z) change_inside)

    pub change_state : row_state n sizes (number - row_weight sizes v * row_state n sizes number v + row_weight sizes v * z) ≡ changed (row_state n sizes number) v z
    unfolding s
    change_state = ap (row_state n sizes) change_number ∙ weights_state (changed s v z) change_inside change_behind
