-- The states before a step: what the tests of a row say of each variable, and that an action leads from a state to another
-- where the step can reach this one and the states differ only as its effects allow.
use Prim.Native.Nat.{ℕ, ◌+◌, ◌≤◌, ◌<◌}
use mathlib.Core.Path.{◌≡◌, refl, sym, ap, ap₂, ◌∙◌}
use mathlib.Core.Bool.{Bool, true, not, cond, ◌&&◌}
use mathlib.Core.List.{List, []}
use native.Mathlib.Omega.{arith}
use lib.Dec.{eqb, leb}
use lib.ListN.{get_or}
use borrow.Author.Tests.{eqb-true, eqb-false, eq-eqb, ne_eqb, le-leb, lt-leb}
use Rattle.files.specs.Dense.{row_pairs}
use Rattle.files.specs.Task.{Pair, Action}
use Rattle.files.proofs.BelowLaws.{all_below_intro, all_below_elim}
use Rattle.files.proofs.Logic.{split, split_le, and_split, and_join}
use Rattle.plans.specs.State.{State, all_hold, applicable, apply}
use Rattle.plans.specs.Tally.{meets_cell}
use Rattle.plans.proofs.RowStates.{after_none, after_some, meets_at, hold_below, apply_row, apply_behind}
use Rattle.files.proofs.Truth.{same_truth}
use Rattle.distances.specs.States.{state_number, state_at}
use Rattle.distances.specs.Rows.{row_variables, row_states, row_state, can_reach, differs_only, leads_to}
use Rattle.lookup.specs.FactRows.{can_have}
use Rattle.lookup.specs.Moves.{weighted}
use Rattle.lookup.proofs.HaveLaws.{have_effect, have_left}
use Rattle.distances.proofs.RowNumbers.{RowSizes, RowInside, number_sum, state_alike}
use Rattle.distances.proofs.StateLoops.{after_inside}
use Rattle.distances.proofs.OneChange.{weighted_alike, state_inside, state_behind, number_weights, weights_state}

module _ (conditions effects : List ℕ) (base : ℕ) where
  abbrev pub condition_at : ℕ → ℕ
  condition_at v = get_or conditions (base + v) 0

  abbrev pub effect_at : ℕ → ℕ
  effect_at v = get_or effects (base + v) 0

  abbrev pub reach_at : State → ℕ → Bool
  reach_at s v = can_have (condition_at v) (effect_at v) (s v)

  module _ (s : State) where
    -- each variable of a state that can be reached
    pub reached_set : (n v : ℕ) → can_reach conditions effects base n s ≡ true → v < n → (effect_at v ≡ 255 → ⊥) → effect_at v ≡ s v
    unfolding can_reach
    reached_set n v e h d = eqb-true (effect_at v) (s v) (have_effect (condition_at v) (effect_at v) (s v) d ∙ all_below_elim n (reach_at s) e v h)

    reached_left : (n v : ℕ) → can_reach conditions effects base n s ≡ true → v < n → effect_at v ≡ 255 → meets_cell (condition_at v) (s v) ≡ true
    unfolding can_reach
    reached_left n v e h d = have_left (condition_at v) (effect_at v) (s v) d ∙ all_below_elim n (reach_at s) e v h

    reached_all : (n : ℕ) → ((v : ℕ) → v < n → (effect_at v ≡ 255 → ⊥) → effect_at v ≡ s v)
        → ((v : ℕ) → v < n → effect_at v ≡ 255 → meets_cell (condition_at v) (s v) ≡ true) → can_reach conditions effects base n s ≡ true
    unfolding can_reach
    reached_all n f g =
        all_below_intro n (reach_at s)
        (λ v h.
        split (eqb (effect_at v) 255)
        (λ e. let d : effect_at v ≡ 255 = eqb-true (effect_at v) 255 e in sym (have_left (condition_at v) (effect_at v) (s v) d) ∙ g v h d)
        (λ e.
        let d : effect_at v ≡ 255 → ⊥ = eqb-false (effect_at v) 255 e in
        sym (have_effect (condition_at v) (effect_at v) (s v) d) ∙ eq-eqb (effect_at v) (s v) (f v h d)))

  -- states that differ only in effects from a variable on
  module _ (n from : ℕ) (s r : State) where
    differs_at : ℕ → Bool
    differs_at v = cond (leb from v && not (eqb (effect_at v) 255)) (meets_cell (condition_at v) (r v)) (eqb (r v) (s v))

    differs_early : (v : ℕ) → v < from → eqb (r v) (s v) ≡ differs_at v
    unfolding differs_at
    differs_early v h = rw (lt-leb from v h) refl

    differs_left : (v : ℕ) → effect_at v ≡ 255 → eqb (r v) (s v) ≡ differs_at v
    unfolding differs_at
    differs_left v e = split (leb from v) (λ l. rw (l, eq-eqb (effect_at v) 255 e) refl) (λ l. rw l refl)

    differs_effect : (v : ℕ) → from ≤ v → (effect_at v ≡ 255 → ⊥) → meets_cell (condition_at v) (r v) ≡ differs_at v
    unfolding differs_at
    differs_effect v h d = rw (le-leb from v h, ne_eqb (effect_at v) 255 d) refl

    module _ (e : differs_only conditions effects base n from s r ≡ true) (v : ℕ) (h : v < n) where
      at_variable : differs_at v ≡ true
      unfolding differs_only differs_at
      at_variable = all_below_elim n differs_at e v h

      pub only_left : effect_at v ≡ 255 → r v ≡ s v
      only_left d = eqb-true (r v) (s v) (differs_left v d ∙ at_variable)

      pub only_effect : from ≤ v → (effect_at v ≡ 255 → ⊥) → meets_cell (condition_at v) (r v) ≡ true
      only_effect l d = differs_effect v l d ∙ at_variable

    pub differs_only_lem : ((v : ℕ) → v < n → v < from → r v ≡ s v) → ((v : ℕ) → v < n → effect_at v ≡ 255 → r v ≡ s v)
        → ((v : ℕ) → v < n → from ≤ v → (effect_at v ≡ 255 → ⊥) → meets_cell (condition_at v) (r v) ≡ true) → differs_only conditions effects base n from s r ≡ true
    unfolding differs_only differs_at
    differs_only_lem f g k =
        all_below_intro n differs_at
        (λ v h.
        split_le from v
        (λ l.
        split (eqb (effect_at v) 255)
        (λ e. let d : effect_at v ≡ 255 = eqb-true (effect_at v) 255 e in sym (differs_left v d) ∙ eq-eqb (r v) (s v) (g v h d))
        (λ e. let d : effect_at v ≡ 255 → ⊥ = eqb-false (effect_at v) 255 e in sym (differs_effect v l d) ∙ k v h l d))
        (λ l. sym (differs_early v l) ∙ eq-eqb (r v) (s v) (f v h l)))

-- an action that leads from state s to state x
module _ (sizes conditions effects : List ℕ) (n base : ℕ) (positive : RowSizes n sizes)
    (inside : (v : ℕ) → v < n → (get_or effects (base + v) 0 ≡ 255 → ⊥) → get_or effects (base + v) 0 < get_or sizes v 0)
    (a : Action) (asks : a.conditions ≡ row_pairs conditions base 0 n) (sets : a.effects ≡ row_pairs effects base 0 n) (starts : List ℕ) (s x : ℕ) (below : x < row_states n sizes) where
  r : State
  r = row_state n sizes s

  t : State
  t = row_state n sizes x

  -- the state after the action
  set_value : (v : ℕ) → v < n → (effect_at conditions effects base v ≡ 255 → ⊥) → apply a r v ≡ effect_at conditions effects base v
  set_value v h d = apply_row effects base r a n v sets h ∙ sym (after_some (effect_at conditions effects base v) (r v) d)

  left_value : (v : ℕ) → v < n → effect_at conditions effects base v ≡ 255 → apply a r v ≡ r v
  left_value v h e = apply_row effects base r a n v sets h ∙ sym (after_none (effect_at conditions effects base v) (r v) e)

  after_in : RowInside n sizes (apply a r)
  unfolding r
  after_in v h = omega (arith, apply_row effects base r a n v sets h, after_inside sizes effects base n r (state_inside sizes n positive s) inside v h)

  after_behind : (v : ℕ) → n ≤ v → apply a r v ≡ 0
  unfolding r
  after_behind v h = apply_behind effects base r a n v sets h ∙ state_behind sizes n positive s v h

  Reaches : Bool
  Reaches = can_reach conditions effects base n t && differs_only conditions effects base n 0 t r

  Leads : Bool
  Leads = all_hold (row_pairs conditions base 0 n) r && eqb (weighted sizes (apply a r) n) x

  leads_reaches : Leads ≡ true → Reaches ≡ true
  unfolding Leads Reaches t
  leads_reaches e =
      let both = and_split (all_hold (row_pairs conditions base 0 n) r) (eqb (weighted sizes (apply a r) n) x) e in
      let met : (v : ℕ) → v < n → meets_cell (condition_at conditions effects base v) (r v) ≡ true =
      λ v h. all_below_elim n (meets_at conditions base r) (sym (hold_below conditions base r n) ∙ both.0) v h in
      let is : t ≡ apply a r = ap (row_state n sizes) (sym (eqb-true (weighted sizes (apply a r) n) x both.1)) ∙ weights_state sizes n positive (apply a r) after_in after_behind in
      let value : (v : ℕ) → t v ≡ apply a r v = λ v. ap (λ (q : State). q v) is in
      and_join
      (reached_all conditions effects base t n
      (λ v h d. sym (value v ∙ set_value v h d))
      (λ v h d. ap (meets_cell (condition_at conditions effects base v)) (value v ∙ left_value v h d) ∙ met v h))
      (differs_only_lem conditions effects base n 0 t r
      (λ v h l. absurd (omega arith))
      (λ v h d. sym (value v ∙ left_value v h d))
      (λ v h l d. met v h))

  reaches_leads : Reaches ≡ true → Leads ≡ true
  unfolding Leads Reaches t
  reaches_leads e =
      let both = and_split (can_reach conditions effects base n t) (differs_only conditions effects base n 0 t r) e in
      let met : (v : ℕ) → v < n → meets_cell (condition_at conditions effects base v) (r v) ≡ true =
      λ v h.
      split (eqb (effect_at conditions effects base v) 255)
      (λ q.
      let d : effect_at conditions effects base v ≡ 255 = eqb-true (effect_at conditions effects base v) 255 q in
      ap (meets_cell (condition_at conditions effects base v)) (only_left conditions effects base n 0 t r both.1 v h d) ∙ reached_left conditions effects base t n v both.0 h d)
      (λ q. only_effect conditions effects base n 0 t r both.1 v h (omega arith) (eqb-false (effect_at conditions effects base v) 255 q)) in
      let value : (v : ℕ) → v < n → apply a r v ≡ t v =
      λ v h.
      split (eqb (effect_at conditions effects base v) 255)
      (λ q.
      let d : effect_at conditions effects base v ≡ 255 = eqb-true (effect_at conditions effects base v) 255 q in
      left_value v h d ∙ only_left conditions effects base n 0 t r both.1 v h d)
      (λ q.
      let d : effect_at conditions effects base v ≡ 255 → ⊥ = eqb-false (effect_at conditions effects base v) 255 q in
      set_value v h d ∙ reached_set conditions effects base t n v both.0 h d) in
      and_join
      (hold_below conditions base r n ∙ all_below_intro n (meets_at conditions base r) met)
      (eq-eqb (weighted sizes (apply a r) n) x (weighted_alike sizes (apply a r) t n value ∙ number_weights sizes n positive x below))

  pub leads_is : leads_to (row_variables n sizes starts) a s x
      ≡ can_reach conditions effects base n (row_state n sizes x) && differs_only conditions effects base n 0 (row_state n sizes x) (row_state n sizes s)
  unfolding leads_to applicable row_state Leads Reaches r t
  leads_is =
      let at : state_at (row_variables n sizes starts) s ≡ r = state_alike sizes starts [] n s in
      let plain : leads_to (row_variables n sizes starts) a s x ≡ Leads =
      ap (λ (q : State). all_hold a.conditions q && eqb (state_number (row_variables n sizes starts) (apply a q)) x) at
      ∙ ap₂ (λ (l : List Pair) (m : ℕ). all_hold l r && eqb m x) asks (number_sum sizes starts (apply a r) n) in
      plain ∙ same_truth Leads Reaches leads_reaches reaches_leads
