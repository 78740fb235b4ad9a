-- What an action that can lead to a state offers: the states from which it leads there differ from one only in the variables that
-- it sets without a condition.
use Prim.Native.Nat.{ℕ, zero, suc, ◌+◌, ◌-◌, ◌*◌, ◌≤◌, ◌<◌}
use mathlib.Core.Path.{◌≡◌, refl, sym, ap, ◌∙◌}
use mathlib.Core.Bool.{Bool, true, false, not, cond, ◌&&◌}
use mathlib.Core.List.{List}
use native.Mathlib.Nat.{mul-add, mul-le-mul_left}
use native.Mathlib.Omega.{arith}
use lib.Dec.{eqb, leb, ltb}
use lib.ListN.{get_or}
use borrow.Author.Tests.{eqb-true, eqb-false, eq-eqb, lt-ltb, le-ltb, le-leb}
use Rattle.files.specs.Dense.{row_action}
use Rattle.files.proofs.Logic.{clash, split}
use Rattle.files.proofs.Truth.{same_truth}
use Rattle.plans.specs.State.{State}
use Rattle.plans.specs.Tally.{meets_cell}
use Rattle.plans.proofs.RowStates.{meets_none, meets_some}
use Rattle.distances.specs.Rows.{leads_to, row_variables, row_states, row_state, can_reach, differs_only}
use Rattle.lookup.specs.Moves.{no_move, row_weight, weighted, set_by, asked_of, set_freely}
use Rattle.lookup.specs.declared.moves.Move.{Move}
use Rattle.bits.specs.Sets.{in_word}
use Rattle.distances.specs.Tables.{Numbered, SearchTables}
use Rattle.distances.specs.Offers.{differs_in, differs_from}
use Rattle.distances.proofs.RowNumbers.{RowInside}
use Rattle.distances.proofs.OneChange.{state_inside, number_weights, weights_state, weights_below}
use Rattle.distances.proofs.Predecessors.{reached_set, leads_is}
use Rattle.distances.proofs.FactRowLaws.{all_same}

-- sums that are alike variable by variable
pub weighted_balance : (sizes : List ℕ) (p q s t : State) (n : ℕ) → ((v : ℕ) → v < n → p v + s v ≡ q v + t v) → weighted sizes p n + weighted sizes s n ≡ weighted sizes q n + weighted sizes t n
unfolding weighted
weighted_balance sizes p q s t zero h = refl
weighted_balance sizes p q s t (suc n) h =
    let w = row_weight sizes n in
    let one : w * p n + w * s n ≡ w * q n + w * t n = sym (mul-add w (p n) (s n)) ∙ ap (λ (x : ℕ). w * x) (h n (omega arith)) ∙ mul-add w (q n) (t n) in
    omega (arith, one, weighted_balance sizes p q s t n (λ v l. h v (omega arith)))

weighted_most : (sizes : List ℕ) (p q : State) (n : ℕ) → ((v : ℕ) → v < n → p v ≤ q v) → weighted sizes p n ≤ weighted sizes q n
unfolding weighted
weighted_most sizes p q zero h = omega arith
weighted_most sizes p q (suc n) h = omega (arith, mul-le-mul_left (row_weight sizes n) (h n (omega arith)), weighted_most sizes p q n (λ v l. h v (omega arith)))

-- action a can lead to state x
module _ (variables actions count : ℕ) (sizes weights costs conditions effects rows : List ℕ) (moves : List Move) (w : Numbered variables count sizes weights)
    (t : SearchTables variables actions sizes costs conditions effects rows moves) (x : ℕ) (below : x < count) (a : ℕ) (inside : a < actions)
    (reaches : can_reach conditions effects (64 * a) variables (row_state variables sizes x) ≡ true) where
  effect_at : ℕ → ℕ
  effect_at v = get_or effects (64 * a + v) 0

  condition_at : ℕ → ℕ
  condition_at v = get_or conditions (64 * a + v) 0

  own : State
  own = row_state variables sizes x

  -- the state before, with 0 for what is set without a condition
  earlier : State
  earlier v = cond (ltb v variables) (cond (eqb (effect_at v) 255) (own v) (cond (eqb (condition_at v) 255) 0 (condition_at v))) 0

  is_set : (v : ℕ) → v < variables → eqb (effect_at v) 255 ≡ false → own v ≡ effect_at v
  unfolding effect_at own
  is_set v h e = sym (reached_set conditions effects (64 * a) (row_state variables sizes x) variables v reaches h (eqb-false (effect_at v) 255 e))

  -- what is added and taken away, variable by variable
  balance : (v : ℕ) → v < variables → earlier v + set_by effects (64 * a) v ≡ own v + asked_of conditions effects (64 * a) v
  unfolding earlier effect_at condition_at set_by asked_of
  balance v h =
      split (eqb (effect_at v) 255)
      (λ e. rw (lt-ltb v variables h, e) (omega arith))
      (λ e.
      let is : own v ≡ effect_at v = is_set v h e in
      split (eqb (condition_at v) 255)
      (λ f. rw (lt-ltb v variables h, e, f) (omega (arith, is)))
      (λ f. rw (lt-ltb v variables h, e, f) (omega (arith, is))))

  set_most : (v : ℕ) → v < variables → set_by effects (64 * a) v ≤ own v
  unfolding effect_at set_by
  set_most v h = split (eqb (effect_at v) 255) (λ e. rw e (omega arith)) (λ e. rw e (omega (arith, is_set v h e)))

  x_below : x < row_states variables sizes
  x_below = omega (arith, below, w.states)

  x_is : weighted sizes own variables ≡ x
  unfolding own
  x_is = number_weights sizes variables w.size_least x x_below

  pub taken_most : (get_or moves a no_move).set ≤ x
  taken_most = omega (arith, (t.moves_are a inside).set, weighted_most sizes (set_by effects (64 * a)) own variables set_most, x_is)

  number : ℕ
  number = x - (get_or moves a no_move).set + (get_or moves a no_move).asked

  number_is : number ≡ weighted sizes earlier variables
  unfolding number
  number_is =
      omega (
        arith,
        taken_most,
        (t.moves_are a inside).set,
        (t.moves_are a inside).asked,
        x_is,
        weighted_balance sizes earlier own (set_by effects (64 * a)) (asked_of conditions effects (64 * a)) variables balance,
      )

  earlier_inside : RowInside variables sizes earlier
  unfolding earlier effect_at condition_at own
  earlier_inside v h =
      split (eqb (effect_at v) 255)
      (λ e. rw (lt-ltb v variables h, e) (state_inside sizes variables w.size_least x v h))
      (λ e.
      split (eqb (condition_at v) 255)
      (λ f. rw (lt-ltb v variables h, e, f) (w.size_least v h))
      (λ f. rw (lt-ltb v variables h, e, f) (t.asked.condition_inside a v inside h (eqb-false (condition_at v) 255 f))))

  earlier_behind : (v : ℕ) → variables ≤ v → earlier v ≡ 0
  unfolding earlier
  earlier_behind v h = rw (le-ltb v variables h) refl

  pub number_below : x - (get_or moves a no_move).set + (get_or moves a no_move).asked < count
  unfolding number
  number_below = omega (arith, number_is, w.states, weights_below sizes variables w.size_least earlier earlier_inside)

  number_state : row_state variables sizes number ≡ earlier
  number_state = ap (row_state variables sizes) number_is ∙ weights_state sizes variables w.size_least earlier earlier_inside earlier_behind

  free : ℕ
  free = (get_or moves a no_move).free

  free_is : (v : ℕ) → v < variables → in_word free v ≡ set_freely conditions effects (64 * a) v
  unfolding free
  free_is v h = (t.moves_are a inside).free v (omega (arith, h, w.variables_few)) ∙ ap (λ (b : Bool). b && set_freely conditions effects (64 * a) v) (lt-ltb v variables h)

  pub free_zero : (v : ℕ) → v < variables → in_word ((get_or moves a no_move).free) v ≡ true → row_state variables sizes (x - (get_or moves a no_move).set + (get_or moves a no_move).asked) v ≡ 0
  unfolding number free earlier effect_at condition_at set_freely
  free_zero v h e =
      let freely : not (eqb (effect_at v) 255) && eqb (condition_at v) 255 ≡ true = sym (free_is v h) ∙ e in
      ap (λ (s : State). s v) number_state ∙ zero_at (eqb (effect_at v) 255) (eqb (condition_at v) 255) (lt-ltb v variables h) freely
    where
      zero_at : (p q : Bool) → ltb v variables ≡ true → not p && q ≡ true → cond (ltb v variables) (cond p (own v) (cond q 0 (condition_at v))) 0 ≡ 0
      zero_at false true l f = rw l refl
      zero_at true q l f = clash f refl
      zero_at false false l f = clash f refl

  -- the states from which it leads to x
  one_test : (r : State) (v : ℕ) → v < variables
      → cond (leb 0 v && not (eqb (effect_at v) 255)) (meets_cell (condition_at v) (r v)) (eqb (r v) (own v)) ≡ cond (leb 0 v && in_word free v) true (eqb (r v) (earlier v))
  unfolding earlier effect_at condition_at set_freely
  one_test r v h =
      split (eqb (effect_at v) 255)
      (λ e. rw (free_is v h, lt-ltb v variables h, e, le-leb 0 v (omega arith)) refl)
      (λ e.
      split (eqb (condition_at v) 255)
      (λ f. rw (free_is v h, lt-ltb v variables h, e, f, le-leb 0 v (omega arith)) (sym (meets_none (condition_at v) (r v) (eqb-true (condition_at v) 255 f))))
      (λ f.
      rw (free_is v h, lt-ltb v variables h, e, f, le-leb 0 v (omega arith))
      (sym (meets_some (condition_at v) (r v) (eqb-false (condition_at v) 255 f))
      ∙ same_truth (eqb (condition_at v) (r v)) (eqb (r v) (condition_at v))
      (λ k. eq-eqb (r v) (condition_at v) (sym (eqb-true (condition_at v) (r v) k)))
      (λ k. eq-eqb (condition_at v) (r v) (sym (eqb-true (r v) (condition_at v) k))))))

  pub leads_free : (starts : List ℕ) (s : ℕ)
      → differs_from sizes variables ((get_or moves a no_move).free) 0 (x - (get_or moves a no_move).set + (get_or moves a no_move).asked) s ≡ leads_to (row_variables variables sizes starts) (row_action variables costs conditions effects a) s x
  unfolding number free differs_in differs_only own row_action effect_at condition_at
  leads_free starts s =
      let r : State = row_state variables sizes s in
      ap (λ (g : State). differs_in (in_word free) variables 0 g r) number_state
      ∙ sym (all_same variables (λ v. cond (leb 0 v && not (eqb (effect_at v) 255)) (meets_cell (condition_at v) (r v)) (eqb (r v) (own v))) (λ v. cond (leb 0 v && in_word free v) true (eqb (r v) (earlier v))) (one_test r))
      ∙ sym
      (leads_is sizes conditions effects variables (64 * a) w.size_least (λ v l d. t.asked.effect_inside a v inside l d) (row_action variables costs conditions effects a) refl refl starts s x x_below
      ∙ ap (λ (b : Bool). b && differs_only conditions effects (64 * a) variables 0 own r) reaches)
