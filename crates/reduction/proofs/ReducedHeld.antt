-- Arrays with the rows of the kept variables and actions, by new numbers, hold the reduced task; and their origins.
use Prim.Native.Nat.{ℕ, zero, suc, ◌+◌, ◌*◌, ◌-◌, ◌%◌, ◌<◌}
use mathlib.Core.Path.{◌≡◌, refl, sym, ap, ap₂, ◌∙◌}
use mathlib.Core.Bool.{Bool, true, false, cond}
use mathlib.Core.List.{List, [], ◌∷◌, map, ◌++◌}
use native.Mathlib.Omega.{arith}
use native.Mathlib.Numerals.{add-one}
use lib.Dec.{eqb}
use lib.ListN.{length, get_or, length-map}
use borrow.Author.Tests.{eqb-true, eqb-false, ne_eqb}
use Rattle.files.specs.Below.{tabulate, bit, count_below, chosen_below}
use Rattle.files.specs.Dense.{row_pairs, row_variable, row_action, held, row_numbers, row_origin, held_origin, arrays, origin_arrays}
use Rattle.files.specs.declared.arrays.Arrays.{Arrays}
use Rattle.files.specs.Task.{Pair, pair, variable, action, action_of, size_of, start_of}
use Rattle.files.proofs.BelowLaws.{bit_true, bit_false, count_strict, chosen_length, chosen_at, chosen, map_entry}
use Rattle.files.proofs.Logic.{split, cond_case}
use Rattle.files.proofs.RowLaws.{row_pairs_none, row_pairs_skip, row_pairs_next}
use Rattle.files.proofs.Tabulate.{tabulate_from_length, tabulate_entry, tabulate_is}
use Rattle.files.proofs.Valid.{Valid}
use Rattle.files.proofs.CountOrder.{count_most}
use Rattle.files.proofs.HeldTask.{variables_held, actions_held, size_held, start_held, goal_held, cost_held, conditions_held, effects_held, effect_valid, condition_valid, goal_valid}
use Rattle.reduction.specs.Dense.{mapped_cell}
use Rattle.reduction.specs.Named.{named, kept_variable}
use Rattle.reduction.specs.Renumber.{new_variable, named_count, new_value, new_size}
use Rattle.reduction.specs.ReducedBy.{kept_variables, kept_actions, reduced_pairs, reduced_variable, reduced_action, reduced_by, origin_by}

pub chosen_alike : (n : ℕ) (f g : ℕ → Bool) → ((i : ℕ) → i < n → f i ≡ g i) → chosen_below n f ≡ chosen_below n g
chosen_alike zero f g h = refl
chosen_alike (suc n) f g h = ap₂ (λ (l : List ℕ) (b : Bool). l ++ cond b (n ∷ []) []) (chosen_alike n f g (λ i l. h i (omega arith))) (h n (omega arith))

-- a cell that has a value
pub mapped_known : (values : List ℕ) (v e : ℕ) → e < 32 → mapped_cell values v e ≡ get_or values (32 * v + e) 0
unfolding mapped_cell
mapped_known values v e h =
    let rest : e % 32 ≡ e = omega arith in
    ap (λ (b : Bool). cond b 255 (get_or values (32 * v + e % 32) 0)) (ne_eqb e 255 (λ q. omega arith)) ∙ ap (λ (n : ℕ). get_or values (32 * v + n) 0) rest

-- numbers that stand in an array
module _ (K : ℕ → Bool) (n : ℕ) (numbers : List ℕ) (count : ℕ) (are : row_numbers numbers 0 count ≡ chosen_below n K) where
  pub count_is : count ≡ count_below n K
  unfolding row_numbers
  count_is = sym (tabulate_from_length (λ i. get_or numbers (0 + i) 0) 0 count) ∙ ap length are ∙ chosen_length K n

  pub number_entry : (i : ℕ) → i < count → get_or numbers i 0 ≡ get_or (chosen_below n K) i 0
  unfolding row_numbers
  number_entry i h =
      ap (λ (k : ℕ). get_or numbers k 0) (omega arith)
      ∙ sym (tabulate_entry (λ k. get_or numbers (0 + k) 0) count i 0 h)
      ∙ ap (λ (l : List ℕ). get_or l i 0) are

  pub number_known : (i : ℕ) → i < count → (get_or numbers i 0 < n) × (K (get_or numbers i 0) ≡ true)
  number_known i h =
      let c = chosen K n i (omega (arith, count_is)) in
      let is : get_or numbers i 0 ≡ c.number = number_entry i h ∙ ap (λ (k : ℕ). get_or (chosen_below n K) k 0) (sym c.rank) ∙ chosen_at K n c.number c.below c.passes in
      (rw is c.below, rw is c.passes)

  pub number_rank : (v : ℕ) → v < n → K v ≡ true → get_or numbers (count_below v K) 0 ≡ v
  number_rank v h k = number_entry (count_below v K) (omega (arith, count_is, count_strict K n v h k)) ∙ chosen_at K n v h k

  -- a list of what stands for each number
  pub each_number : {X : Type 0} (f : ℕ → X) (g : ℕ → X) (x : X) → ((i : ℕ) → i < count → g i ≡ f (get_or numbers i 0)) → tabulate count g ≡ map f (chosen_below n K)
  each_number f g x h =
      tabulate_is g count (map f (chosen_below n K)) x (length-map (chosen_below n K) f ∙ chosen_length K n ∙ sym count_is)
      (λ i l.
      h i l
      ∙ ap f (number_entry i l)
      ∙ sym (map_entry f (chosen_below n K) i x 0 (omega (arith, chosen_length K n, count_is))))

module _ (d : Arrays) (ok : Valid (held d)) (A : ℕ → Bool) where
  abbrev K : ℕ → Bool
  K = kept_variable (held d) A

  -- new numbers are small
  new_value_small : (v e : ℕ) → e < size_of (held d) v → new_value (held d) A v e < 255
  unfolding new_value named_count
  new_value_small v e k =
      cond_case (λ (n : ℕ). n < 255) (named (held d) A v e) (count_below e (named (held d) A v)) (count_below (size_of (held d) v) (named (held d) A v))
      (λ q. omega (arith, count_most e (named (held d) A v), ok.size_most v))
      (λ q. omega (arith, count_most (size_of (held d) v) (named (held d) A v), ok.size_most v))

  module _ (values numbers : List ℕ) (count : ℕ)
      (value : (v e : ℕ) → v < d.variables → e < size_of (held d) v → get_or values (32 * v + e) 0 ≡ new_value (held d) A v e)
      (are : row_numbers numbers 0 count ≡ chosen_below d.variables K) where
    mapped_value : (v e : ℕ) → v < d.variables → e < size_of (held d) v → mapped_cell values v e ≡ new_value (held d) A v e
    mapped_value v e h k = mapped_known values v e (omega (arith, ok.size_most v)) ∙ value v e h k

    none : (v x : ℕ) → eqb x 255 ≡ true → mapped_cell values v x ≡ 255
    unfolding mapped_cell
    none v x z = ap (λ (b : Bool). cond b 255 (get_or values (32 * v + x % 32) 0)) z

    kept_pair : (v x : ℕ) (ps : List Pair) → K v ≡ true → reduced_pairs (held d) A (pair v x ∷ ps) ≡ pair (count_below v K) (new_value (held d) A v x) ∷ reduced_pairs (held d) A ps
    unfolding reduced_pairs new_variable
    kept_pair v x ps q = ap (λ (b : Bool). cond b (pair (count_below v K) (new_value (held d) A v x) ∷ reduced_pairs (held d) A ps) (reduced_pairs (held d) A ps)) q

    dropped_pair : (v x : ℕ) (ps : List Pair) → K v ≡ false → reduced_pairs (held d) A (pair v x ∷ ps) ≡ reduced_pairs (held d) A ps
    unfolding reduced_pairs new_variable
    dropped_pair v x ps q = ap (λ (b : Bool). cond b (pair (count_below v K) (new_value (held d) A v x) ∷ reduced_pairs (held d) A ps) (reduced_pairs (held d) A ps)) q

    -- a row of the kept variables holds the reduced pairs
    module _ (row old : List ℕ) (to from : ℕ)
        (valid : (v : ℕ) → v < d.variables → eqb (get_or old (from + v) 0) 255 ≡ false → get_or old (from + v) 0 < size_of (held d) v)
        (entry : (i : ℕ) → i < count → get_or row (to + i) 0 ≡ mapped_cell values (get_or numbers i 0) (get_or old (from + get_or numbers i 0) 0)) where
      kept_entry : (v : ℕ) → v < d.variables → K v ≡ true → get_or row (to + count_below v K) 0 ≡ mapped_cell values v (get_or old (from + v) 0)
      kept_entry v h k =
          entry (count_below v K) (omega (arith, count_is K d.variables numbers count are, count_strict K d.variables v h k))
          ∙ ap (λ (w : ℕ). mapped_cell values w (get_or old (from + w) 0)) (number_rank K d.variables numbers count are v h k)

      pairs_from_lem : (k v : ℕ) → v + k ≡ d.variables → row_pairs row to (count_below v K) (count - count_below v K) ≡ reduced_pairs (held d) A (row_pairs old from v k)
      unfolding row_pairs reduced_pairs
      pairs_from_lem zero v e =
          let last : v ≡ d.variables = omega arith in
          let all : count_below v K ≡ count = ap (λ (n : ℕ). count_below n K) last ∙ sym (count_is K d.variables numbers count are) in
          row_pairs_none row to (count_below v K) (count - count_below v K) (omega arith)
      pairs_from_lem (suc k) v e =
          let x = get_or old (from + v) 0 in
          let known : v < d.variables = omega arith in
          let step : count_below (v + 1) K ≡ bit (K v) + count_below v K = ap (λ (n : ℕ). count_below n K) (add-one v) in
          let later = pairs_from_lem k (v + 1) (omega arith) in
          split (K v)
          (λ q.
          let place = kept_entry v known q in
          let rank : count_below (v + 1) K ≡ count_below v K + 1 = omega (arith, bit_true (K v) q) in
          let room : count_below v K < count = omega (arith, count_is K d.variables numbers count are, count_strict K d.variables v known q) in
          let left : count - count_below v K ≡ suc (count - count_below (v + 1) K) = omega arith in
          let rest : row_pairs row to (count_below v K + 1) (count - count_below (v + 1) K) ≡ reduced_pairs (held d) A (row_pairs old from (v + 1) k) = ap (λ (n : ℕ). row_pairs row to n (count - count_below (v + 1) K)) (sym rank) ∙ later in
          split (eqb x 255)
          (λ z.
          row_pairs_skip row to (count_below v K) (count - count_below v K) 255 left (sym (place ∙ none v x z)) refl
          ∙ rest
          ∙ sym (ap (reduced_pairs (held d) A) (row_pairs_skip old from v (suc k) x refl refl (eqb-true x 255 z))))
          (λ z.
          let inside = valid v known z in
          let y = new_value (held d) A v x in
          let mapped : get_or row (to + count_below v K) 0 ≡ y = place ∙ mapped_value v x known inside in
          row_pairs_next row to (count_below v K) (count - count_below v K) y left (sym mapped) (λ r. omega (arith, new_value_small v x inside))
          ∙ ap (λ (l : List Pair). pair (count_below v K) y ∷ l) rest
          ∙ sym (kept_pair v x (row_pairs old from (v + 1) k) q)
          ∙ sym (ap (reduced_pairs (held d) A) (row_pairs_next old from v (suc k) x refl refl (eqb-false x 255 z)))))
          (λ q.
          let rank : count_below (v + 1) K ≡ count_below v K = omega (arith, bit_false (K v) q) in
          let rest : row_pairs row to (count_below v K) (count - count_below v K) ≡ reduced_pairs (held d) A (row_pairs old from (v + 1) k) = ap (λ (n : ℕ). row_pairs row to n (count - n)) (sym rank) ∙ later in
          split (eqb x 255)
          (λ z. rest ∙ sym (ap (reduced_pairs (held d) A) (row_pairs_skip old from v (suc k) x refl refl (eqb-true x 255 z))))
          (λ z.
          rest
          ∙ sym (dropped_pair v x (row_pairs old from (v + 1) k) q)
          ∙ sym (ap (reduced_pairs (held d) A) (row_pairs_next old from v (suc k) x refl refl (eqb-false x 255 z)))))

      pub row_reduced : row_pairs row to 0 count ≡ reduced_pairs (held d) A (row_pairs old from 0 d.variables)
      row_reduced = let whole : count ≡ count - 0 = omega arith in ap (row_pairs row to 0) whole ∙ pairs_from_lem d.variables 0 (omega arith)

    -- the whole task
    module _ (originals : List ℕ) (actions : ℕ) (chosen_actions : row_numbers originals 0 actions ≡ chosen_below d.actions A)
        (sizes starts goal costs conditions effects : List ℕ)
        (size : (i : ℕ) → i < count → get_or sizes i 0 ≡ new_size (held d) A (get_or numbers i 0))
        (start : (i : ℕ) → i < count → get_or starts i 0 ≡ mapped_cell values (get_or numbers i 0) (get_or d.starts (get_or numbers i 0) 0))
        (aim : (i : ℕ) → i < count → get_or goal (0 + i) 0 ≡ mapped_cell values (get_or numbers i 0) (get_or d.goal (0 + get_or numbers i 0) 0))
        (cost : (j : ℕ) → j < actions → get_or costs j 0 ≡ get_or d.costs (get_or originals j 0) 0)
        (asked : (j i : ℕ) → j < actions → i < count → get_or conditions (64 * j + i) 0 ≡ mapped_cell values (get_or numbers i 0) (get_or d.conditions (64 * get_or originals j 0 + get_or numbers i 0) 0))
        (set : (j i : ℕ) → j < actions → i < count → get_or effects (64 * j + i) 0 ≡ mapped_cell values (get_or numbers i 0) (get_or d.effects (64 * get_or originals j 0 + get_or numbers i 0) 0)) where
      variables_reduced : tabulate count (row_variable sizes starts) ≡ map (reduced_variable (held d) A) (kept_variables (held d) A)
      unfolding row_variable reduced_variable kept_variables
      variables_reduced =
          each_number K d.variables numbers count are (λ v. variable (new_size (held d) A v) (new_value (held d) A v (start_of (held d) v))) (row_variable sizes starts) (variable 0 0)
          (λ i l.
          let v = get_or numbers i 0 in
          let known = (number_known K d.variables numbers count are i l).0 in
          let small = size i l in
          let first : get_or starts i 0 ≡ new_value (held d) A v (start_of (held d) v) =
          start i l
          ∙ ap (mapped_cell values v) (sym (start_held d v known))
          ∙ mapped_value v (start_of (held d) v) known (ok.start v (omega (arith, variables_held d))) in
          λ k. variable (small k) (first k))
          ∙ ap (λ (n : ℕ). map (λ v. variable (new_size (held d) A v) (new_value (held d) A v (start_of (held d) v))) (chosen_below n K)) (sym (variables_held d))

      action_reduced : (j : ℕ) → j < actions → row_action count costs conditions effects j ≡ reduced_action (held d) A (action_of (held d) (get_or originals j 0))
      unfolding row_action reduced_action
      action_reduced j l =
          let a = get_or originals j 0 in
          let known = (number_known A d.actions originals actions chosen_actions j l).0 in
          let minutes : get_or costs j 0 ≡ (action_of (held d) a).cost = cost j l ∙ sym (cost_held d a known) in
          let asks : row_pairs conditions (64 * j) 0 count ≡ reduced_pairs (held d) A (action_of (held d) a).conditions =
          row_reduced conditions d.conditions (64 * j) (64 * a) (λ v h there. condition_valid d ok a v known h there) (λ i h. asked j i l h)
          ∙ ap (reduced_pairs (held d) A) (sym (conditions_held d a known)) in
          let sets : row_pairs effects (64 * j) 0 count ≡ reduced_pairs (held d) A (action_of (held d) a).effects =
          row_reduced effects d.effects (64 * j) (64 * a) (λ v h there. effect_valid d ok a v known h there) (λ i h. set j i l h)
          ∙ ap (reduced_pairs (held d) A) (sym (effects_held d a known)) in
          λ k. action (minutes k) (asks k) (sets k)

      actions_reduced : tabulate actions (row_action count costs conditions effects) ≡ map (λ a. reduced_action (held d) A (action_of (held d) a)) (kept_actions (held d) A)
      unfolding kept_actions
      actions_reduced =
          each_number A d.actions originals actions chosen_actions (λ a. reduced_action (held d) A (action_of (held d) a)) (row_action count costs conditions effects) (action 0 [] []) action_reduced
          ∙ ap (λ (n : ℕ). map (λ a. reduced_action (held d) A (action_of (held d) a)) (chosen_below n A)) (sym (actions_held d))

      goal_reduced : row_pairs goal 0 0 count ≡ reduced_pairs (held d) A (held d).goal
      goal_reduced =
          row_reduced goal d.goal 0 0 (goal_valid d ok) aim
          ∙ ap (reduced_pairs (held d) A) (sym (goal_held d))

      pub reduced_held : held (arrays count actions sizes starts goal costs conditions effects) ≡ reduced_by (held d) A
      unfolding held reduced_by
      reduced_held =
          let vs = variables_reduced in
          let ps = goal_reduced in
          let acts = actions_reduced in
          λ k. record { variables = vs k; goal = ps k; actions = acts k }

    -- the origins
    module _ (originals : List ℕ) (actions : ℕ) (chosen_actions : row_numbers originals 0 actions ≡ chosen_below d.actions A)
        (sizes rows : List ℕ)
        (size : (i : ℕ) → i < count → get_or sizes i 0 ≡ get_or d.sizes (get_or numbers i 0) 0)
        (row : (i e : ℕ) → i < count → e < 32 → get_or rows (32 * i + e) 0 ≡ get_or values (32 * get_or numbers i 0 + e) 0) where
      origin_values : (i : ℕ) → i < count → row_numbers rows (32 * i) (get_or sizes i 0) ≡ tabulate (size_of (held d) (get_or numbers i 0)) (new_value (held d) A (get_or numbers i 0))
      unfolding row_numbers
      origin_values i l =
          let v = get_or numbers i 0 in
          let known = (number_known K d.variables numbers count are i l).0 in
          let long : get_or sizes i 0 ≡ size_of (held d) v = size i l ∙ sym (size_held d v known) in
          ap (λ (n : ℕ). tabulate n (λ e. get_or rows (32 * i + e) 0)) long
          ∙ tabulate_is (λ e. get_or rows (32 * i + e) 0) (size_of (held d) v) (tabulate (size_of (held d) v) (new_value (held d) A v)) 0 (tabulate_from_length (new_value (held d) A v) 0 (size_of (held d) v))
          (λ e k.
          row i e l (omega (arith, ok.size_most v))
          ∙ value v e known k
          ∙ sym (tabulate_entry (new_value (held d) A v) (size_of (held d) v) e 0 k))

      origin_variables : tabulate count (row_origin numbers sizes rows) ≡ map (λ v. record { variable = v; values = tabulate (size_of (held d) v) (new_value (held d) A v) }) (kept_variables (held d) A)
      unfolding row_origin kept_variables
      origin_variables =
          each_number K d.variables numbers count are (λ v. record { variable = v; values = tabulate (size_of (held d) v) (new_value (held d) A v) }) (row_origin numbers sizes rows) (record { variable = 0; values = [] })
          (λ i l. let vs = origin_values i l in λ k. record { variable = get_or numbers i 0; values = vs k })
          ∙ ap (λ (n : ℕ). map (λ v. record { variable = v; values = tabulate (size_of (held d) v) (new_value (held d) A v) }) (chosen_below n K)) (sym (variables_held d))

      origin_actions : row_numbers originals 0 actions ≡ kept_actions (held d) A
      unfolding kept_actions
      origin_actions = chosen_actions ∙ ap (λ (n : ℕ). chosen_below n A) (sym (actions_held d))

      pub origin_held : held_origin (origin_arrays count actions numbers sizes rows originals) ≡ origin_by (held d) A
      unfolding held_origin origin_by
      origin_held = let vs = origin_variables in let acts = origin_actions in λ k. record { variables = vs k; actions = acts k }
