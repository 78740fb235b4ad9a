-- What reading off needs of a state, variable by variable; and the number of the state that an action leads to, from its parts.
use Prim.Native.Nat.{ℕ, zero, suc, ◌+◌, ◌-◌, ◌*◌, ◌^◌, ◌≤◌, ◌<◌}
use mathlib.Core.Path.{◌≡◌, refl, sym, ap, subst, ◌∙◌}
use mathlib.Core.Bool.{Bool, true, false, not, cond, ◌&&◌, and-true}
use mathlib.Core.List.{List, []}
use native.Mathlib.Omega.{arith}
use native.Mathlib.Nat.{zero-add}
use lib.Bits.{bit_and, and_le_r}
use lib.Count.{count_trailing_zeros}
use lib.Dec.{eqb}
use lib.ListN.{length, length-set, get_or, set}
use lib.Seq.{get_or-set_same, get_or-set_other}
use borrow.Author.Tests.{eq-eqb, ne_eqb}
use Rattle.files.specs.Below.{all_below}
use Rattle.files.proofs.Logic.{split_le}
use Rattle.marking.proofs.RoundCount.{sum_alike, sum_zero}
use Rattle.plans.specs.State.{State}
use Rattle.plans.specs.Tally.{list_state}
use Rattle.distances.specs.States.{state_at}
use Rattle.distances.specs.Rows.{row_variables, row_state}
use Rattle.lookup.specs.Moves.{no_move, row_weight}
use Rattle.bits.specs.Sets.{in_word, in_words}
use Rattle.lookup.specs.FactRows.{most_facts, fact_number, RowsFor, InCheapRows}
use Rattle.lookup.specs.declared.moves.Move.{Move}
use Rattle.search.specs.declared.first_plan.Here.{Here}
use Rattle.search.specs.ReadOff.{HereOf, CanKnow, freed_by, taken_by, goes_by, CanGo}
use Rattle.distances.proofs.StateLoops.{weight_first, weight_next}
use Rattle.distances.proofs.OneChange.{state_inside}
use Rattle.bits.proofs.BitLaws.{in_none, there_at}
use Rattle.search.proofs.FirstBits.{zeros_below, cleared}

module _ (n : ℕ) (sizes : List ℕ) (s : ℕ) where
  -- what the variables before v add
  pub record Knowing (added : List ℕ) (weight v : ℕ) : Type 0 where
    pub added_is : (w : ℕ) → w < v → get_or added w 0 ≡ row_weight sizes w * row_state n sizes s w
    pub weight_is : weight ≡ row_weight sizes v
    pub full : length added ≡ 64

  pub know_begin : (added : List ℕ) → length added ≡ 64 → Knowing added 1 0
  know_begin added full = record { added_is = λ w h. absurd (omega arith); weight_is = weight_first sizes; full = full }

-- what is known of a state
module _ (n : ℕ) (sizes rows : List ℕ) (s : ℕ) (values : List ℕ) (state : (starts : List ℕ) → list_state values ≡ state_at (row_variables n sizes starts) s) where
  value_is : (v : ℕ) → get_or values v 0 ≡ row_state n sizes s v
  unfolding list_state row_state
  value_is v = ap (λ (f : State). f v) (state [])

  pub can_find : CanKnow n sizes rows → RowsFor n sizes values rows
  can_find can = record { few = can.facts; inside = λ v h. omega (arith, value_is v, state_inside sizes n can.states.sized.least s v h) }

  pub know_next : (added : List ℕ) (weight v value size : ℕ) → Knowing n sizes s added weight v → v < 64 → value ≡ get_or values v 0 → size ≡ get_or sizes v 0
      → Knowing n sizes s (set added v (weight * value)) (weight * size) (v + 1)
  know_next added weight v value size c h is d =
      record {
        added_is = λ w l.
            split_le v w
            (λ a.
            let at : v ≡ w = omega arith in
            subst (λ (u : ℕ). get_or (set added v (weight * value)) u 0 ≡ row_weight sizes u * row_state n sizes s u) at
            (get_or-set_same added v (weight * value) 0 (omega (arith, c.full)) ∙ (λ i. c.weight_is i * (is ∙ value_is v) i)))
            (λ a. get_or-set_other added v w (weight * value) 0 (omega arith) ∙ c.added_is w a);
        weight_is = weight_next sizes v weight size c.weight_is d;
        full = length-set added v (weight * value) ∙ c.full;
      }

  pub know_end : (words added : List ℕ) (weight v : ℕ) → Knowing n sizes s added weight v → n ≤ v → InCheapRows n sizes values rows words
      → HereOf n sizes rows s (record { actions = words; added = added })
  unfolding list_state row_state
  know_end words added weight v c l all =
      record {
        actions_are = λ a h.
            all a h
            ∙ ap (λ (f : State). in_words rows (8 * most_facts) a && all_below n (λ u. in_words rows (8 * fact_number sizes u (f u)) a)) (state []);
        added = λ w h. c.added_is w (omega arith);
      }

-- what the variables in a word add: those in an empty one nothing, and the first in another what it adds beside the others
freed_none : (here : Here) (n : ℕ) → freed_by here 0 n ≡ 0
unfolding freed_by
freed_none here n = sum_zero n (λ v. cond (in_word 0 v) (get_or here.added v 0) 0) (λ v h. rw (in_none v) refl)

module _ (here : Here) (w rest v : ℕ) (there : in_word w v ≡ true) (others : (k : ℕ) → in_word rest k ≡ in_word w k && not (eqb k v)) where
  freed_apart : (n : ℕ) → v < n → get_or here.added v 0 + freed_by here rest n ≡ freed_by here w n
  unfolding freed_by
  freed_apart zero h = absurd (omega arith)
  freed_apart (suc n) h =
      split_le n v
      (λ l.
      let last : n ≡ v = omega arith in
      let alike : freed_by here rest n ≡ freed_by here w n =
      sum_alike n (λ k. cond (in_word rest k) (get_or here.added k 0) 0) (λ k. cond (in_word w k) (get_or here.added k 0) 0)
      (λ k b. ap (λ (t : Bool). cond t (get_or here.added k 0) 0) (kept k (λ e. omega arith))) in
      let own : cond (in_word w n) (get_or here.added n 0) 0 ≡ get_or here.added v 0 = rw (last, there) refl in
      let gone : cond (in_word rest n) (get_or here.added n 0) 0 ≡ 0 = rw (others n, last, there, eq-eqb v v refl) refl in
      omega (arith, alike, own, gone))
      (λ l.
      let same : cond (in_word rest n) (get_or here.added n 0) 0 ≡ cond (in_word w n) (get_or here.added n 0) 0 =
      ap (λ (t : Bool). cond t (get_or here.added n 0) 0) (kept n (λ e. omega arith)) in
      omega (arith, freed_apart n l, same))
    where
      kept : (k : ℕ) → (k ≡ v → ⊥) → in_word rest k ≡ in_word w k
      kept k d = others k ∙ ap (λ (t : Bool). in_word w k && not t) (ne_eqb k v d) ∙ and-true (in_word w k)

-- a word of which the variables in `rest` are still to be added
module _ (here : Here) (word : ℕ) where
  pub record Freeing (sum rest : ℕ) : Type 0 where
    pub sum_is : sum + freed_by here rest 64 ≡ freed_by here word 64
    pub few : rest < 2 ^ 64

  pub free_begin : word < 2 ^ 64 → Freeing 0 word
  free_begin few = record { sum_is = zero-add (freed_by here word 64); few = few }

  module _ (sum rest : ℕ) (c : Freeing sum rest) (h : 0 < rest) where
    below : count_trailing_zeros 64 rest < 64
    below = zeros_below 64 rest h c.few

    next_sum : sum + get_or here.added (count_trailing_zeros 64 rest) 0 + freed_by here (bit_and rest (rest - 1)) 64 ≡ freed_by here word 64
    next_sum = omega (arith, c.sum_is, freed_apart here rest (bit_and rest (rest - 1)) (count_trailing_zeros 64 rest) (there_at 64 rest below) (cleared 64 rest below) 64 below)

    pub free_few : freed_by here word 64 ≤ 1000000 → sum + get_or here.added (count_trailing_zeros 64 rest) 0 ≤ 1000000
    free_few few = omega (arith, next_sum)

    pub free_next : Freeing (sum + get_or here.added (count_trailing_zeros 64 rest) 0) (bit_and rest (rest - 1))
    free_next = record { sum_is = next_sum; few = omega (arith, and_le_r rest (rest - 1), c.few) }

  pub free_end : (sum rest : ℕ) → Freeing sum rest → rest ≤ 0 → sum ≡ freed_by here word 64
  free_end sum rest c l = let none : rest ≡ 0 = omega arith in omega (arith, c.sum_is, ap (λ (w : ℕ). freed_by here w 64) none, freed_none here 64)

-- the state that an action leads to
module _ (here : Here) (moves : List Move) (s a : ℕ) (b : Bool) (is : b ≡ in_words here.actions 0 a) where
  pub goes_still : b ≡ false → s ≡ goes_by here moves s a
  unfolding goes_by
  goes_still e = let none_here = sym is ∙ e in sym (rw none_here refl)

  -- it takes no more than there is
  pub goes_enough : CanGo here moves s a → b ≡ true → (get_or moves a no_move).asked + freed_by here ((get_or moves a no_move).free) 64 ≤ s + (get_or moves a no_move).set
  unfolding taken_by
  goes_enough can e = can.enough (sym is ∙ e)

  pub goes_further : b ≡ true → (freed : ℕ) → freed ≡ freed_by here ((get_or moves a no_move).free) 64 → s + (get_or moves a no_move).set - (get_or moves a no_move).asked - freed ≡ goes_by here moves s a
  unfolding goes_by taken_by
  goes_further e freed k = let yes_here = sym is ∙ e in rw yes_here (omega arith)
