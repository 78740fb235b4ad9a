-- Arrays with the costs and rows of chosen actions hold the task with those actions alone.
use Prim.Native.Nat.{ℕ, zero, suc, ◌+◌, ◌*◌, ◌≤◌, ◌<◌}
use mathlib.Core.Path.{◌≡◌, refl, sym, ap, ap₂, ◌∙◌}
use mathlib.Core.Bool.{Bool, cond}
use mathlib.Core.List.{List, [], ◌∷◌, map}
use native.Mathlib.Omega.{arith}
use lib.Dec.{eqb}
use lib.ListN.{get_or}
use Rattle.files.specs.Below.{tabulate, chosen_below}
use Rattle.files.specs.Dense.{row_pairs, row_action, held, row_numbers, arrays}
use Rattle.files.specs.declared.arrays.Arrays.{Arrays}
use Rattle.files.specs.Task.{Pair, pair, action, action_of}
use Rattle.files.proofs.HeldTask.{actions_held, held_action}
use Rattle.reduction.specs.ReducedBy.{kept_actions}
use Rattle.reduction.specs.Turns.{struck_to}
use Rattle.reduction.proofs.ReducedHeld.{number_known, each_number}

-- rows with the same cells hold the same pairs
row_alike : (row old : List ℕ) (to from v count : ℕ) → ((i : ℕ) → i < v + count → get_or row (to + i) 0 ≡ get_or old (from + i) 0)
    → row_pairs row to v count ≡ row_pairs old from v count
unfolding row_pairs
row_alike row old to from v zero h = refl
row_alike row old to from v (suc count) h =
    ap₂ (λ (x : ℕ) (l : List Pair). cond (eqb x 255) l (pair v x ∷ l))
    (h v (omega arith))
    (row_alike row old to from (v + 1) count (λ i l. h i (omega arith)))

module _ (d : Arrays) (chosen : List ℕ) (count : ℕ) (R : ℕ → Bool) (are : row_numbers chosen 0 count ≡ chosen_below d.actions R)
    (costs conditions effects : List ℕ) (few : d.variables ≤ 64)
    (cost : (j default : ℕ) → j < count → get_or costs j default ≡ get_or d.costs (get_or chosen j 0) default)
    (asked : (j i : ℕ) → j < count → i < 64 → get_or conditions (64 * j + i) 0 ≡ get_or d.conditions (64 * get_or chosen j 0 + i) 0)
    (set : (j i : ℕ) → j < count → i < 64 → get_or effects (64 * j + i) 0 ≡ get_or d.effects (64 * get_or chosen j 0 + i) 0) where
  action_chosen : (j : ℕ) → j < count → row_action d.variables costs conditions effects j ≡ action_of (held d) (get_or chosen j 0)
  unfolding row_action
  action_chosen j l =
      let a = get_or chosen j 0 in
      let minutes = cost j 0 l in
      let asks = row_alike conditions d.conditions (64 * j) (64 * a) 0 d.variables (λ i h. asked j i l (omega arith)) in
      let sets = row_alike effects d.effects (64 * j) (64 * a) 0 d.variables (λ i h. set j i l (omega arith)) in
      (λ k. action (minutes k) (asks k) (sets k)) ∙ sym (held_action d a (number_known R d.actions chosen count are j l).0)

  actions_chosen : tabulate count (row_action d.variables costs conditions effects) ≡ map (action_of (held d)) (kept_actions (held d) R)
  unfolding kept_actions
  actions_chosen =
      each_number R d.actions chosen count are (action_of (held d)) (row_action d.variables costs conditions effects) (action 0 [] []) action_chosen
      ∙ ap (λ (n : ℕ). map (action_of (held d)) (chosen_below n R)) (sym (actions_held d))

  pub struck_held : held (arrays d.variables count d.sizes d.starts d.goal costs conditions effects) ≡ struck_to (held d) R
  unfolding held struck_to
  struck_held = let acts = actions_chosen in λ k. record { variables = (held d).variables; goal = (held d).goal; actions = acts k }
