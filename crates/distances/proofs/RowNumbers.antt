-- States of the variables that arrays hold: their count and numbers by the weights of the variables.
use Prim.Native.Nat.{ℕ, zero, suc, ◌+◌, ◌*◌, ◌/◌, ◌≤◌, ◌<◌}
use mathlib.Core.Path.{◌≡◌, refl, sym, ap, ap₂, fun_ext, ◌∙◌}
use mathlib.Core.List.{List, []}
use native.Mathlib.Omega.{arith}
use native.Mathlib.Nat.{add-zero, zero-add, mul-add, mul_assoc, mul-one, one-mul, mul-zero, mul-suc, mul-le-mul_left, mul_comm}
use native.Mathlib.Numerals.{add-one}
use lib.ListN.{length, get_or}
use Rattle.files.specs.Below.{tabulate_from}
use Rattle.files.specs.Dense.{row_variable}
use Rattle.files.specs.Task.{Variable, variable}
use Rattle.files.proofs.Logic.{split_le}
use Rattle.files.proofs.Tabulate.{tabulate_from_length, tabulate_entry}
use Rattle.plans.specs.State.{State}
use Rattle.distances.specs.States.{state_count, state_number, state_at}
use Rattle.distances.specs.Rows.{row_variables, row_states}
use Rattle.lookup.specs.Moves.{row_weight, weighted}
use Rattle.distances.proofs.Radix.{Sizes, InDomains}

-- each of the first n variables has a value; each value of a state is in its domain
abbrev pub RowSizes : ℕ → List ℕ → Type 0
RowSizes n sizes = (v : ℕ) → v < n → 1 ≤ get_or sizes v 0

abbrev pub RowInside : ℕ → List ℕ → State → Type 0
RowInside n sizes s = (v : ℕ) → v < n → s v < get_or sizes v 0

-- count and number of the k variables from v on
unfoldable pub count_from : List ℕ → ℕ → ℕ → ℕ
count_from sizes v zero = 1
count_from sizes v (suc k) = get_or sizes v 0 * count_from sizes (v + 1) k

unfoldable pub number_from : List ℕ → State → ℕ → ℕ → ℕ
number_from sizes s v zero = 0
number_from sizes s v (suc k) = s v + get_or sizes v 0 * number_from sizes s (v + 1) k

module _ (sizes : List ℕ) where
  -- the definitions are these, whatever the start values
  pub count_is : (starts : List ℕ) (v k : ℕ) → state_count (tabulate_from v k (row_variable sizes starts)) ≡ count_from sizes v k
  unfolding state_count count_from row_variable
  count_is starts v zero = refl
  count_is starts v (suc k) = ap (λ (n : ℕ). get_or sizes v 0 * n) (count_is starts (v + 1) k)

  number_is : (starts : List ℕ) (s : State) (v k : ℕ) → state_number (tabulate_from v k (row_variable sizes starts)) (λ w. s (v + w)) ≡ number_from sizes s v k
  unfolding state_number number_from row_variable
  number_is starts s v zero = refl
  number_is starts s v (suc k) =
      ap₂ (λ (a b : ℕ). a + get_or sizes v 0 * b) (ap s (add-zero v))
      (ap (state_number (tabulate_from (v + 1) k (row_variable sizes starts))) (fun_ext (λ w. ap s (omega arith))) ∙ number_is starts s (v + 1) k)

  pub row_number : (starts : List ℕ) (s : State) (n : ℕ) → state_number (row_variables n sizes starts) s ≡ number_from sizes s 0 n
  row_number starts s n = ap (state_number (row_variables n sizes starts)) (fun_ext (λ w. ap s (omega arith))) ∙ number_is starts s 0 n

  -- states that agree have the same number
  pub number_alike : (s t : State) (v k : ℕ) → ((w : ℕ) → v ≤ w → w < v + k → s w ≡ t w) → number_from sizes s v k ≡ number_from sizes t v k
  unfolding number_from
  number_alike s t v zero h = refl
  number_alike s t v (suc k) h =
      ap₂ (λ (a b : ℕ). a + get_or sizes v 0 * b) (h v (omega arith) (omega arith)) (number_alike s t (v + 1) k (λ w a b. h w (omega arith) (omega arith)))

  pub number_from_below : (s : State) (v k : ℕ) → ((w : ℕ) → v ≤ w → w < v + k → s w < get_or sizes w 0) → number_from sizes s v k < count_from sizes v k
  unfolding number_from count_from
  number_from_below s v zero h = omega arith
  number_from_below s v (suc k) h =
      let d = get_or sizes v 0 in
      let q = number_from sizes s (v + 1) k in
      let below : q < count_from sizes (v + 1) k = number_from_below s (v + 1) k (λ w a b. h w (omega arith) (omega arith)) in
      omega (arith, mul-le-mul_left d below, mul-suc d q, h v (omega arith) (omega arith))

  -- weights
  weight_count : (v k : ℕ) → row_weight sizes v * count_from sizes v k ≡ row_weight sizes (v + k)
  unfolding count_from row_weight
  weight_count v zero = mul-one (row_weight sizes v) ∙ ap (row_weight sizes) (sym (add-zero v))
  weight_count v (suc k) =
      let e : v + 1 + k ≡ v + suc k = omega arith in
      sym (mul_assoc (row_weight sizes v) (get_or sizes v 0) (count_from sizes (v + 1) k))
      ∙ ap (λ (n : ℕ). row_weight sizes n * count_from sizes (v + 1) k) (sym (add-one v))
      ∙ weight_count (v + 1) k
      ∙ ap (row_weight sizes) e

  pub states_weight : (n : ℕ) → row_states n sizes ≡ row_weight sizes n
  unfolding row_states row_weight
  states_weight n =
      count_is [] 0 n
      ∙ sym (one-mul (count_from sizes 0 n))
      ∙ weight_count 0 n
      ∙ ap (row_weight sizes) (zero-add n)

  pub states_count : (starts : List ℕ) (n : ℕ) → row_states n sizes ≡ state_count (row_variables n sizes starts)
  unfolding row_states
  states_count starts n = count_is [] 0 n ∙ sym (count_is starts 0 n)

  -- weights rise
  pub weight_rises : (v n : ℕ) → RowSizes n sizes → v ≤ n → row_weight sizes v ≤ row_weight sizes n
  unfolding row_weight
  weight_rises v zero h l = let e : v ≡ 0 = omega arith in rw e (omega arith)
  weight_rises v (suc n) h l =
      split_le (suc n) v
      (λ a. let e : v ≡ suc n = omega arith in rw e (omega arith))
      (λ a.
      let w = row_weight sizes n in
      omega (arith, weight_rises v n (λ u b. h u (omega arith)) (omega arith), mul-le-mul_left w (h n (omega arith)), mul-one w))

  pub weight_most : (v n : ℕ) → RowSizes n sizes → v ≤ n → row_weight sizes v ≤ row_states n sizes
  weight_most v n h l = omega (arith, weight_rises v n h l, states_weight n)

  pub weight_positive : (v n : ℕ) → RowSizes n sizes → v ≤ n → 1 ≤ row_weight sizes v
  unfolding row_weight
  weight_positive v n h l = omega (arith, weight_rises 0 v (λ u b. h u (omega arith)) (omega arith))

  pub count_from_most : (n v k : ℕ) → RowSizes n sizes → v + k ≡ n → count_from sizes v k ≤ row_states n sizes
  count_from_most n v k h e =
      let c = count_from sizes v k in
      let w = row_weight sizes v in
      let whole : w * c ≡ row_states n sizes = weight_count v k ∙ ap (row_weight sizes) e ∙ sym (states_weight n) in
      omega (arith, mul-le-mul_left c (weight_positive v n h (omega arith)), mul-one c, mul_comm c w)

  -- numbers as sums
  number_weighted : (s : State) (v k : ℕ) → row_weight sizes v * number_from sizes s v k + weighted sizes s v ≡ weighted sizes s (v + k)
  unfolding number_from weighted row_weight
  number_weighted s v zero = rw mul-zero (zero-add (weighted sizes s v) ∙ ap (weighted sizes s) (sym (add-zero v)))
  number_weighted s v (suc k) =
      let w = row_weight sizes v in
      let d = get_or sizes v 0 in
      let q = number_from sizes s (v + 1) k in
      let next : weighted sizes s (v + 1) ≡ w * s v + weighted sizes s v = ap (weighted sizes s) (add-one v) in
      let more : row_weight sizes (v + 1) * q ≡ w * (d * q) = ap (λ (n : ℕ). row_weight sizes n * q) (add-one v) ∙ mul_assoc w d q in
      let e : v + 1 + k ≡ v + suc k = omega arith in
      let rest : row_weight sizes (v + 1) * q + weighted sizes s (v + 1) ≡ weighted sizes s (v + suc k) = number_weighted s (v + 1) k ∙ ap (weighted sizes s) e in
      omega (arith, mul-add w (s v) (d * q))

  pub number_sum : (starts : List ℕ) (s : State) (n : ℕ) → state_number (row_variables n sizes starts) s ≡ weighted sizes s n
  unfolding weighted row_weight
  number_sum starts s n =
      row_number starts s n
      ∙ sym (one-mul (number_from sizes s 0 n))
      ∙ sym (add-zero (1 * number_from sizes s 0 n))
      ∙ number_weighted s 0 n
      ∙ ap (weighted sizes s) (zero-add n)

  -- the variables of arrays, by their sizes
  row_size : (starts : List ℕ) (n v : ℕ) → v < n → (get_or (row_variables n sizes starts) v (variable 0 0)).size ≡ get_or sizes v 0
  unfolding row_variable
  row_size starts n v h = ap (λ (x : Variable). x.size) (tabulate_entry (row_variable sizes starts) n v (variable 0 0) h)

  pub row_length : (starts : List ℕ) (n : ℕ) → length (row_variables n sizes starts) ≡ n
  row_length starts n = tabulate_from_length (row_variable sizes starts) 0 n

  pub row_sizes : (starts : List ℕ) (n : ℕ) → RowSizes n sizes → Sizes (row_variables n sizes starts)
  row_sizes starts n h v l =
      let below : v < n = omega (arith, row_length starts n) in
      omega (arith, h v below, row_size starts n v below)

  pub row_inside : (starts : List ℕ) (n : ℕ) (s : State) → RowInside n sizes s → InDomains (row_variables n sizes starts) s
  row_inside starts n s h v l =
      let below : v < n = omega (arith, row_length starts n) in
      omega (arith, h v below, row_size starts n v below)

  pub inside_row : (starts : List ℕ) (n : ℕ) (s : State) → InDomains (row_variables n sizes starts) s → RowInside n sizes s
  inside_row starts n s h v l = omega (arith, h v (omega (arith, row_length starts n)), row_size starts n v l)

  -- the values of a number, whatever the start values
  values_alike : (starts others : List ℕ) (v k n w : ℕ) → state_at (tabulate_from v k (row_variable sizes starts)) n w ≡ state_at (tabulate_from v k (row_variable sizes others)) n w
  unfolding state_at row_variable
  values_alike starts others v zero n w = refl
  values_alike starts others v (suc k) n zero = refl
  values_alike starts others v (suc k) n (suc w) = values_alike starts others (v + 1) k (n / get_or sizes v 0) w

  pub state_alike : (starts others : List ℕ) (n number : ℕ) → state_at (row_variables n sizes starts) number ≡ state_at (row_variables n sizes others) number
  state_alike starts others n number = fun_ext (values_alike starts others 0 n number)
