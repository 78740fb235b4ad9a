-- The states at which the goal holds are those that differ from one only in the variables of which it asks nothing; and the entries
-- that they are offered.
use Prim.Native.Nat.{ℕ, ◌+◌, ◌≤◌, ◌<◌}
use mathlib.Core.Path.{◌≡◌, refl, sym, ap, ap₂, ◌∙◌}
use mathlib.Core.Bool.{Bool, true, false, cond, ◌&&◌}
use mathlib.Core.List.{List, []}
use native.Mathlib.Nat.{zero-add}
use native.Mathlib.Omega.{arith}
use lib.Dec.{eqb, leb, ltb}
use lib.ListN.{length, get_or, replicate, length-replicate, get_or-replicate}
use Rattle.std.proofs.lemmas.List.{get_or_past}
use borrow.Author.Tests.{eqb-true, eqb-false, eq-eqb, lt-ltb, le-ltb, le-leb}
use Rattle.files.specs.Dense.{row_pairs}
use Rattle.files.proofs.Logic.{split, split_le}
use Rattle.files.proofs.Truth.{same_truth}
use Rattle.plans.specs.Plan.{no_steps, at_most}
use Rattle.plans.specs.State.{State, all_hold}
use Rattle.plans.specs.Tally.{meets_cell}
use Rattle.plans.proofs.RowStates.{meets_none, meets_some, meets_at, hold_below}
use Rattle.distances.specs.States.{state_at}
use Rattle.distances.specs.Table.{entry_of}
use Rattle.distances.specs.Entries.{no_entry, first_entry, is_none, less_entry, lowered, table_entry}
use Rattle.distances.specs.Rows.{row_variables, row_state}
use Rattle.distances.specs.Selecting.{Selecting, Fresh, Offers}
use Rattle.distances.proofs.Blocks.{known_cleared}
use Rattle.distances.specs.declared.selection.Selection.{Selection}
use Rattle.bits.specs.Sets.{in_word}
use Rattle.lookup.specs.Moves.{weighted}
use Rattle.distances.specs.declared.Entry.{Entry}
use Rattle.distances.specs.Tables.{Numbered}
use Rattle.distances.specs.Offers.{differs_in, differs_from, goal_values, GoalFree}
use Rattle.distances.proofs.RowNumbers.{RowInside, weight_most, state_alike}
use Rattle.distances.proofs.OneChange.{weighted_alike, weights_state, weights_below}
use Rattle.distances.proofs.FactRowLaws.{all_same}

-- no entry is one
abbrev pub Cleared : List Entry → Type 0
Cleared entries = (s : ℕ) → table_entry entries s ≡ no_entry

pub cleared : (n : ℕ) → Cleared (replicate n no_entry)
unfolding table_entry
cleared n s = split_le n s (λ h. get_or_past (replicate n no_entry) s no_entry (omega (arith, length-replicate n no_entry))) (λ h. get_or-replicate n s no_entry no_entry h)

-- before the first offer
pub fresh_selecting : (entries : List Entry) (x : Selection) → Fresh (length entries) x → length entries ≤ 4096 → Cleared entries → Selecting entries x
fresh_selecting entries x fresh few none =
    record {
      few = few;
      known =
          known_cleared entries x.settled (length entries) x.least
          (λ s l. none s)
          (λ b h. ap (λ (l : List ℕ). get_or l b 0) fresh.least_is ∙ get_or-replicate 64 b (length entries) 0 (omega (arith, h, few)));
    }

first_lower : (b : Bool) → cond b (lowered (first_entry true) no_entry) no_entry ≡ first_entry b
unfolding lowered less_entry at_most entry_of no_steps
first_lower true = refl
first_lower false = refl

module _ (variables count : ℕ) (sizes weights goal : List ℕ) (w : Numbered variables count sizes weights)
    (inside : (v : ℕ) → v < variables → (get_or goal v 0 ≡ 255 → ⊥) → get_or goal v 0 < get_or sizes v 0) where
  pub weights_few : (v : ℕ) → v < variables → get_or weights v 0 ≤ 4096
  weights_few v h = omega (arith, w.weights_are v h, weight_most sizes v variables w.size_least (omega (arith, h)), w.states, w.few)

  -- the state with the values that the goal asks
  asked : State
  asked v = cond (ltb v variables) (goal_values goal v) 0

  asked_inside : RowInside variables sizes asked
  unfolding asked goal_values
  asked_inside v h =
      split (eqb (get_or goal v 0) 255)
      (λ e. rw (lt-ltb v variables h, e) (w.size_least v h))
      (λ e. rw (lt-ltb v variables h, e) (inside v h (eqb-false (get_or goal v 0) 255 e)))

  asked_behind : (v : ℕ) → variables ≤ v → asked v ≡ 0
  unfolding asked
  asked_behind v h = rw (le-ltb v variables h) refl

  module _ (number free : ℕ) (number_is : number ≡ weighted sizes (goal_values goal) variables) (free_is : GoalFree variables goal free) where
    number_asked : number ≡ weighted sizes asked variables
    unfolding asked
    number_asked = number_is ∙ weighted_alike sizes (goal_values goal) asked variables (λ v h. sym (ap (λ (b : Bool). cond b (goal_values goal v) 0) (lt-ltb v variables h)))

    pub goal_below : number < count
    goal_below = omega (arith, number_asked, w.states, weights_below sizes variables w.size_least asked asked_inside)

    goal_state : row_state variables sizes number ≡ asked
    goal_state = ap (row_state variables sizes) number_asked ∙ weights_state sizes variables w.size_least asked asked_inside asked_behind

    pub goal_zero : (v : ℕ) → v < variables → in_word free v ≡ true → row_state variables sizes number v ≡ 0
    unfolding asked goal_values
    goal_zero v h e = ap (λ (s : State). s v) goal_state ∙ rw (lt-ltb v variables h, sym (free_is v h) ∙ e) refl

    one_test : (r : State) (v : ℕ) → v < variables → cond (leb 0 v && in_word free v) true (eqb (r v) (asked v)) ≡ meets_at goal 0 r v
    unfolding asked goal_values
    one_test r v h =
        let at : get_or goal (0 + v) 0 ≡ get_or goal v 0 = ap (λ (u : ℕ). get_or goal u 0) (zero-add v) in
        split (eqb (get_or goal v 0) 255)
        (λ e. rw (free_is v h, e, le-leb 0 v (omega arith)) (meets_none (get_or goal (0 + v) 0) (r v) (at ∙ eqb-true (get_or goal v 0) 255 e)))
        (λ e.
        rw (free_is v h, lt-ltb v variables h, e, le-leb 0 v (omega arith))
        (same_truth (eqb (r v) (get_or goal v 0)) (eqb (get_or goal v 0) (r v))
        (λ k. eq-eqb (get_or goal v 0) (r v) (sym (eqb-true (r v) (get_or goal v 0) k)))
        (λ k. eq-eqb (r v) (get_or goal v 0) (sym (eqb-true (get_or goal v 0) (r v) k)))
        ∙ meets_some (get_or goal v 0) (r v) (eqb-false (get_or goal v 0) 255 e)
        ∙ ap (λ (c : ℕ). meets_cell c (r v)) (sym at)))

    goal_test : (starts : List ℕ) (s : ℕ) → differs_from sizes variables free 0 number s ≡ all_hold (row_pairs goal 0 0 variables) (state_at (row_variables variables sizes starts) s)
    unfolding differs_in row_state
    goal_test starts s =
        let r : State = row_state variables sizes s in
        ap (λ (g : State). differs_in (in_word free) variables 0 g r) goal_state
        ∙ all_same variables (λ v. cond (leb 0 v && in_word free v) true (eqb (r v) (asked v))) (meets_at goal 0 r) (one_test r)
        ∙ sym (hold_below goal 0 r variables)
        ∙ ap (all_hold (row_pairs goal 0 0 variables)) (state_alike sizes [] starts variables s)

    pub goal_entries : (first : Entry) (entries₀ entries : List Entry) (x₀ x : Selection) → first ≡ first_entry true → Cleared entries₀ → Offers (differs_from sizes variables free 0 number) first entries₀ x₀ entries x
        → (starts : List ℕ) (s : ℕ) → s < length entries₀ → table_entry entries s ≡ first_entry (all_hold (row_pairs goal 0 0 variables) (state_at (row_variables variables sizes starts) s))
    goal_entries first entries₀ entries x₀ x is none o starts s l =
        let b : Bool = all_hold (row_pairs goal 0 0 variables) (state_at (row_variables variables sizes starts) s) in
        o.offered s l
        ∙ ap (λ (t : Bool). cond t (lowered first (table_entry entries₀ s)) (table_entry entries₀ s)) (goal_test starts s)
        ∙ ap₂ (λ (x y : Entry). cond b (lowered x y) y) is (none s)
        ∙ first_lower b

-- the entry of no steps is one
pub first_near : is_none (first_entry true) ≡ false
unfolding is_none entry_of no_steps
first_near = refl
