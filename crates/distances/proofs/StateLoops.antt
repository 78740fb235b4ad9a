-- The loops over the variables of a state: from one turn to the next, and at the end.
use Prim.Native.Nat.{ℕ, suc, ◌+◌, ◌-◌, ◌*◌, ◌/◌, ◌%◌, ◌≤◌, ◌<◌}
use mathlib.Core.Path.{◌≡◌, refl, sym, ap, ap₂, subst, fun_ext, ◌∙◌}
use mathlib.Core.List.{List, []}
use native.Mathlib.Omega.{arith}
use native.Mathlib.Nat.{add-zero, zero-add}
use native.Mathlib.Numerals.{add-one}
use lib.ListN.{length, get_or, set, length-set}
use Rattle.files.specs.Below.{tabulate_from}
use Rattle.files.specs.Dense.{row_pairs, row_variable}
use Rattle.files.specs.Task.{Action}
use Rattle.files.proofs.Filling.{filled_before, filled_after}
use Rattle.files.proofs.Logic.{split_le}
use Rattle.plans.specs.State.{State, apply}
use Rattle.plans.specs.Tally.{list_state}
use Rattle.plans.proofs.RowStates.{after_none, after_some, after_row, apply_row}
use Rattle.distances.specs.States.{state_number, state_at}
use Rattle.distances.specs.Rows.{row_variables, row_states, Counted}
use Rattle.lookup.specs.Moves.{row_weight}
use Rattle.distances.proofs.Radix.{state_past}
use Rattle.distances.proofs.RowNumbers.{RowSizes, RowInside, number_from, row_number, number_alike, number_from_below, states_weight, weight_most, count_from_most, row_length, state_alike}

-- weights, and the count of states
pub weight_first : (sizes : List ℕ) → 1 ≡ row_weight sizes 0
unfolding row_weight
weight_first sizes = refl

pub weight_next : (sizes : List ℕ) (v weight d : ℕ) → weight ≡ row_weight sizes v → d ≡ get_or sizes v 0 → weight * d ≡ row_weight sizes (v + 1)
unfolding row_weight
weight_next sizes v weight d e f = ap₂ ◌*◌ e f ∙ sym (ap (row_weight sizes) (add-one v))

pub count_over : (sizes : List ℕ) (n v r : ℕ) → RowSizes n sizes → v < n → r ≡ row_weight sizes (v + 1) → 4096 < r → Counted n sizes r
count_over sizes n v r h l e over = record { few = λ k. absurd (omega arith); many = λ k. omega (arith, weight_most sizes (v + 1) n h (omega arith)) }

pub count_end : (sizes : List ℕ) (n v r : ℕ) → v ≤ n → n ≤ v → r ≡ row_weight sizes v → Counted n sizes r
count_end sizes n v r a b e =
    let last : v ≡ n = omega arith in
    let is : r ≡ row_states n sizes = e ∙ ap (row_weight sizes) last ∙ sym (states_weight sizes n) in
    record { few = λ k. is; many = λ k. omega arith }

-- numbers, from the last variable down
module _ (sizes : List ℕ) (s : State) (n : ℕ) where
  pub number_begin : 0 ≡ number_from sizes s n (n - n)
  unfolding number_from
  number_begin = let none : n - n ≡ 0 = omega arith in sym (ap (number_from sizes s n) none)

  pub number_next : (v number value d : ℕ) → 0 < v → v ≤ n → number ≡ number_from sizes s v (n - v) → value ≡ s (v - 1) → d ≡ get_or sizes (v - 1) 0
      → value + d * number ≡ number_from sizes s (v - 1) (n - (v - 1))
  unfolding number_from
  number_next v number value d h l e f g =
      let one : n - (v - 1) ≡ suc (n - v) = omega arith in
      let here : v - 1 + 1 ≡ v = omega arith in
      let rest : number ≡ number_from sizes s (v - 1 + 1) (n - v) = e ∙ sym (ap (λ (u : ℕ). number_from sizes s u (n - v)) here) in
      (λ i. f i + g i * rest i) ∙ sym (ap (number_from sizes s (v - 1)) one)

  module _ (inside : RowInside n sizes s) where
    sizes_least : RowSizes n sizes
    sizes_least v h = omega (arith, inside v h)

    number_below_states : (v number : ℕ) → v ≤ n → number ≡ number_from sizes s v (n - v) → number < row_states n sizes
    number_below_states v number l e =
        let all : v + (n - v) ≡ n = omega arith in
        omega (arith, number_from_below sizes s v (n - v) (λ w a b. inside w (omega arith)), count_from_most sizes n v (n - v) sizes_least all)

    pub number_few : (v number : ℕ) → v ≤ n → number ≡ number_from sizes s v (n - v) → row_states n sizes ≤ 4096 → number ≤ 4096
    number_few v number l e few = omega (arith, number_below_states v number l e)

  pub number_end : (starts : List ℕ) (v number : ℕ) → v ≤ 0 → number ≡ number_from sizes s v (n - v) → number ≡ state_number (row_variables n sizes starts) s
  number_end starts v number l e =
      let first : v ≡ 0 = omega arith in
      let all : n - v ≡ n = omega arith in
      e ∙ ap₂ (number_from sizes s) first all ∙ sym (row_number sizes starts s n)

-- the state after a row's effects
module _ (sizes effects : List ℕ) (base n : ℕ) (s : State) where
  pub after_inside : RowInside n sizes s → ((v : ℕ) → v < n → (get_or effects (base + v) 0 ≡ 255 → ⊥) → get_or effects (base + v) 0 < get_or sizes v 0)
      → RowInside n sizes (after_row effects base s)
  after_inside h k v l =
      let x = get_or effects (base + v) 0 in
      split_le x 255
      (λ a.
      split_le 255 x
      (λ b. omega (arith, h v l, after_none x (s v) (omega arith)))
      (λ b. omega (arith, k v l (λ e. omega arith), after_some x (s v) (λ e. omega arith))))
      (λ a. omega (arith, k v l (λ e. omega arith), after_some x (s v) (λ e. omega arith)))

  pub after_number : (starts : List ℕ) (a : Action) (number : ℕ) → a.effects ≡ row_pairs effects base 0 n → number ≡ state_number (row_variables n sizes starts) (after_row effects base s)
      → number ≡ state_number (row_variables n sizes starts) (apply a s)
  after_number starts a number is e =
      e
      ∙ row_number sizes starts (after_row effects base s) n
      ∙ number_alike sizes (after_row effects base s) (apply a s) 0 n (λ w b l. sym (apply_row effects base s a n w is (omega arith)))
      ∙ sym (row_number sizes starts (apply a s) n)

-- the values of a number, from the first variable on
pub record Decoding (sizes : List ℕ) (n state : ℕ) (values : List ℕ) (rest v : ℕ) : Type 0 where
  pub before : (w : ℕ) → w < v → get_or values w 0 ≡ state_at (row_variables n sizes []) state w
  pub behind : (w : ℕ) → v ≤ w → get_or values w 0 ≡ 0
  pub left : (w : ℕ) → state_at (tabulate_from v (n - v) (row_variable sizes [])) rest w ≡ state_at (row_variables n sizes []) state (v + w)
  pub within : v ≤ n
  pub full : length values ≡ 64

module _ (sizes : List ℕ) (n state : ℕ) where
  pub decode_begin : (values : List ℕ) → ((w : ℕ) → get_or values w 0 ≡ 0) → length values ≡ 64 → Decoding sizes n state values state 0
  decode_begin values z f =
      record {
        before = λ w h. absurd (omega arith);
        behind = λ w h. z w;
        left = λ w. ap₂ (λ (k u : ℕ). state_at (tabulate_from 0 k (row_variable sizes [])) state u) (let e : n - 0 ≡ n = omega arith in e) (sym (zero-add w));
        within = omega arith;
        full = f;
      }

  module _ (values : List ℕ) (rest v d : ℕ) (c : Decoding sizes n state values rest v) (h : v < n) (few : n ≤ 64) (is : d ≡ get_or sizes v 0) where
    one : n - v ≡ suc (n - (v + 1))
    one = omega arith

    value : rest % d ≡ state_at (row_variables n sizes []) state v
    unfolding state_at row_variable
    value =
        ap (λ (k : ℕ). rest % k) is
        ∙ sym (ap (λ (k : ℕ). state_at (tabulate_from v k (row_variable sizes [])) rest 0) one)
        ∙ c.left 0
        ∙ ap (state_at (row_variables n sizes []) state) (add-zero v)

    more : (w : ℕ) → state_at (tabulate_from (v + 1) (n - (v + 1)) (row_variable sizes [])) (rest / d) w ≡ state_at (row_variables n sizes []) state (v + 1 + w)
    unfolding state_at row_variable
    more w =
        let e : v + suc w ≡ v + 1 + w = omega arith in
        ap (λ (k : ℕ). state_at (tabulate_from (v + 1) (n - (v + 1)) (row_variable sizes [])) (rest / k) w) is
        ∙ sym (ap (λ (k : ℕ). state_at (tabulate_from v k (row_variable sizes [])) rest (suc w)) one)
        ∙ c.left (suc w)
        ∙ ap (state_at (row_variables n sizes []) state) e

    decoded : Decoding sizes n state (set values v (rest % d)) (rest / d) (v + 1)
    decoded =
        record {
          before = filled_before values v (rest % d) (λ w x. x ≡ state_at (row_variables n sizes []) state w) (omega (arith, c.full)) c.before value;
          behind = filled_after values v (rest % d) (λ w x. x ≡ 0) c.behind;
          left = more;
          within = omega arith;
          full = length-set values v (rest % d) ∙ c.full;
        }

    pub decode_next : (x y : ℕ) → x ≡ rest % d → y ≡ rest / d → Decoding sizes n state (set values v x) y (v + 1)
    decode_next x y e f = subst (λ (z : ℕ). Decoding sizes n state (set values v x) z (v + 1)) (sym f) (subst (λ (z : ℕ). Decoding sizes n state (set values v z) (rest / d) (v + 1)) (sym e) decoded)

  pub decode_end : (values : List ℕ) (rest v : ℕ) → Decoding sizes n state values rest v → n ≤ v → (starts : List ℕ) → list_state values ≡ state_at (row_variables n sizes starts) state
  unfolding list_state
  decode_end values rest v c l starts =
      fun_ext
      (λ w.
      split_le v w
      (λ a. c.behind w a ∙ sym (state_past (row_variables n sizes []) state w (omega (arith, row_length sizes [] n))))
      (λ a. c.before w a))
      ∙ state_alike sizes [] starts n state
