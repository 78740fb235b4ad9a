-- Where an action leads from a state, by the tables: it is applicable and cheap enough where the words say so, its numbers fit, and the number is that of the state after it.
use Prim.Native.Nat.{ℕ, zero, suc, ◌+◌, ◌*◌, ◌≤◌, ◌<◌}
use mathlib.Core.Path.{◌≡◌, refl, sym, ap, ap₂, ◌∙◌}
use mathlib.Core.Bool.{Bool, true, false, cond, ◌&&◌}
use mathlib.Core.List.{List, []}
use native.Mathlib.Omega.{arith}
use native.Mathlib.Nat.{mul-zero}
use lib.Dec.{eqb}
use lib.ListN.{get_or}
use borrow.Author.Tests.{eqb-true, eqb-false, lt-ltb, le-ltb}
use Rattle.files.specs.Below.{sum_below}
use Rattle.files.specs.Dense.{row_pairs, row_action}
use Rattle.files.specs.Task.{Variable, Action, Task, action_of}
use Rattle.files.proofs.BelowLaws.{all_below_elim}
use Rattle.files.proofs.Logic.{split, split_le, and_split}
use Rattle.marking.proofs.RoundCount.{sum_alike}
use Rattle.plans.specs.State.{State, all_hold, applicable, apply}
use Rattle.plans.specs.Tally.{after_cell}
use Rattle.plans.proofs.RowStates.{meets_some, after_none, after_some, meets_at, hold_below, after_row}
use Rattle.distances.specs.States.{state_number, state_at}
use Rattle.distances.specs.Table.{next_state}
use Rattle.distances.specs.Rows.{row_variables, row_states, row_state, can_reach}
use Rattle.lookup.specs.Moves.{no_move, row_weight, weighted, set_by, asked_of, set_freely}
use Rattle.bits.specs.Sets.{in_word, in_words}
use Rattle.lookup.specs.FactRows.{most_facts, fact_number, leads_to_fact}
use Rattle.lookup.specs.declared.moves.Move.{Move}
use Rattle.search.specs.declared.first_plan.Here.{Here}
use Rattle.search.specs.ReadOff.{StepTables, Stepped, HereOf, freed_by, taken_by, goes_by, CanGo}
use Rattle.distances.proofs.RowNumbers.{RowInside, number_sum, state_alike}
use Rattle.distances.proofs.StateLoops.{after_inside, after_number}
use Rattle.distances.proofs.OneChange.{state_inside, number_weights, weights_below}
use Rattle.distances.proofs.Predecessors.{reach_at}
use Rattle.distances.proofs.FactRowLaws.{all_same, reach_holds}

-- what the variables in the set of a word add
freed_other : (here : Here) (word v : ℕ) → in_word word v ≡ false → freed_by here word (suc v) ≡ freed_by here word v
unfolding freed_by
freed_other here word v e = let term : cond (in_word word v) (get_or here.added v 0) 0 ≡ 0 = rw e refl in omega (arith, term)

freed_skip : (here : Here) (word from r : ℕ) → from ≤ r → ((k : ℕ) → from ≤ k → k < r → in_word word k ≡ false) → freed_by here word r ≡ freed_by here word from
freed_skip here word from zero l h = let is : from ≡ 0 = omega arith in ap (freed_by here word) (sym is)
freed_skip here word from (suc r) l h =
    split_le from r
    (λ a. freed_other here word r (h r a (omega arith)) ∙ freed_skip here word from r a (λ k b c. h k b (omega arith)))
    (λ a. let is : from ≡ suc r = omega arith in ap (freed_by here word) (sym is))

-- what a step does to the number, variable by variable
module _ (sizes conditions effects : List ℕ) (base : ℕ) (s : State) where
  abbrev free_at : ℕ → ℕ
  free_at v = cond (set_freely conditions effects base v) (row_weight sizes v * s v) 0

  one_balance : (v : ℕ) → meets_at conditions base s v ≡ true
      → row_weight sizes v * after_row effects base s v + (row_weight sizes v * asked_of conditions effects base v + free_at v) ≡ row_weight sizes v * s v + row_weight sizes v * set_by effects base v
  unfolding set_by asked_of set_freely
  one_balance v met =
      let w = row_weight sizes v in
      let e = get_or effects (base + v) 0 in
      let c = get_or conditions (base + v) 0 in
      split (eqb e 255)
      (λ no. rw (no, ← after_none e (s v) (eqb-true e 255 no)) (omega (arith, mul-zero w)))
      (λ yes.
      let new : after_cell e (s v) ≡ e = sym (after_some e (s v) (eqb-false e 255 yes)) in
      split (eqb c 255)
      (λ free. rw (yes, free, new) (omega (arith, mul-zero w)))
      (λ asked.
      let is : c ≡ s v = eqb-true c (s v) (meets_some c (s v) (eqb-false c 255 asked) ∙ met) in
      rw (yes, asked, new, ← is) (omega arith)))

  balance : (n : ℕ) → ((v : ℕ) → v < n → meets_at conditions base s v ≡ true)
      → weighted sizes (after_row effects base s) n + (weighted sizes (asked_of conditions effects base) n + sum_below n free_at) ≡ weighted sizes s n + weighted sizes (set_by effects base) n
  unfolding weighted
  balance zero met = refl
  balance (suc n) met = omega (arith, one_balance n (met n (omega arith)), balance n (λ v h. met v (omega arith)))

-- an action of the tables, from a state
module _ (n actions : ℕ) (sizes costs conditions effects rows : List ℕ) (moves : List Move) (tables : StepTables n actions sizes costs conditions effects rows moves) (s : ℕ) (here : Here)
    (known : HereOf n sizes rows s here) (below : s < row_states n sizes) (a : ℕ) (inside : a < actions) where
  abbrev state : State
  state = row_state n sizes s

  abbrev after : State
  after = after_row effects (64 * a) state

  applies : in_words here.actions 0 a ≡ in_words rows (8 * most_facts) a && all_hold (row_pairs conditions (64 * a) 0 n) state
  unfolding can_reach leads_to_fact
  applies =
      known.actions_are a (omega (arith, tables.asked.actions_few))
      ∙ ap (λ (b : Bool). in_words rows (8 * most_facts) a && b)
      (all_same n (λ v. in_words rows (8 * fact_number sizes v (state v)) a) (reach_at conditions conditions (64 * a) state)
      (λ v h. tables.rows_are v (state v) a h (state_inside sizes n tables.asked.size_least s v h) inside)
      ∙ reach_holds conditions (64 * a) n state)

  -- the variables that it sets freely
  abbrev free_word : ℕ
  free_word = (get_or moves a no_move).free

  freed_variables : freed_by here free_word n ≡ sum_below n (free_at sizes conditions effects (64 * a) state)
  unfolding freed_by
  freed_variables =
      sum_alike n (λ v. cond (in_word free_word v) (get_or here.added v 0) 0) (free_at sizes conditions effects (64 * a) state)
      (λ v h.
      let free = (tables.moves_are a inside).free v (omega (arith, tables.asked.variables_few)) ∙ ap (λ (b : Bool). b && set_freely conditions effects (64 * a) v) (lt-ltb v n h) in
      ap₂ (λ (b : Bool) (x : ℕ). cond b x 0) free (known.added v h))

  freed_is : freed_by here free_word 64 ≡ sum_below n (free_at sizes conditions effects (64 * a) state)
  freed_is =
      freed_skip here free_word n 64 tables.asked.variables_few
      (λ k b c. (tables.moves_are a inside).free k c ∙ ap (λ (x : Bool). x && set_freely conditions effects (64 * a) k) (le-ltb k n b))
      ∙ freed_variables

  -- the number after it
  module _ (yes : in_words here.actions 0 a ≡ true) where
    met : (v : ℕ) → v < n → meets_at conditions (64 * a) state v ≡ true
    met = all_below_elim n (meets_at conditions (64 * a) state) (sym (hold_below conditions (64 * a) state n) ∙ (and_split (in_words rows (8 * most_facts) a) _ (sym applies ∙ yes)).1)

    after_balance : weighted sizes after n + taken_by here moves a ≡ s + (get_or moves a no_move).set
    unfolding taken_by
    after_balance =
        omega (arith, balance sizes conditions effects (64 * a) state n met, freed_is, (tables.moves_are a inside).asked, (tables.moves_are a inside).set, number_weights sizes n tables.asked.size_least s below)

    goes_number : goes_by here moves s a ≡ weighted sizes after n
    unfolding goes_by
    goes_number = rw yes (omega (arith, after_balance))

  pub goes_nowhere : in_words here.actions 0 a ≡ false → goes_by here moves s a ≡ s
  unfolding goes_by
  goes_nowhere e = rw e refl

  set_inside : RowInside n sizes (set_by effects (64 * a))
  unfolding set_by
  set_inside v h =
      split (eqb (get_or effects (64 * a + v) 0) 255)
      (λ e. rw e (tables.asked.size_least v h))
      (λ e. rw e (tables.asked.effect_inside a v inside h (eqb-false (get_or effects (64 * a + v) 0) 255 e)))

  pub can_go : CanGo here moves s a
  can_go =
      record {
        action_few = omega (arith, tables.asked.actions_few);
        state_few = omega (arith, tables.asked.states_few);
        set_few = omega (arith, (tables.moves_are a inside).set, weights_below sizes n tables.asked.size_least (set_by effects (64 * a)) set_inside, tables.asked.states_few);
        enough = λ yes. omega (arith, after_balance yes);
      }

  pub goes_below : goes_by here moves s a < row_states n sizes
  goes_below =
      split (in_words here.actions 0 a)
      (λ yes.
      let within = after_inside sizes effects (64 * a) n state (state_inside sizes n tables.asked.size_least s) (λ v. tables.asked.effect_inside a v inside) in
      omega (arith, goes_number yes, weights_below sizes n tables.asked.size_least after within))
      (λ no. omega (arith, goes_nowhere no))

-- an action of the task that the tables hold
module _ (t : Task) (n actions : ℕ) (sizes costs rows : List ℕ) (moves : List Move) (k : Stepped t n actions sizes costs rows moves) (s : ℕ) (here : Here)
    (known : HereOf n sizes rows s here) (below : s < row_states n sizes) (a : ℕ) (inside : a < actions) where
  here_state : state_at t.variables s ≡ row_state n sizes s
  unfolding row_state
  here_state = ap (λ (vs : List Variable). state_at vs s) k.variables_are ∙ state_alike sizes k.starts [] n s

  holds_is : applicable (action_of t a) (state_at t.variables s) ≡ all_hold (row_pairs k.conditions (64 * a) 0 n) (row_state n sizes s)
  unfolding applicable row_action
  holds_is =
      ap (λ (x : Action). applicable x (state_at t.variables s)) (k.actions_are a inside)
      ∙ ap (applicable (row_action n costs k.conditions k.effects a)) here_state

  pub applies_is : in_words here.actions 0 a ≡ in_words rows (8 * most_facts) a && applicable (action_of t a) (state_at t.variables s)
  applies_is =
      applies n actions sizes costs k.conditions k.effects rows moves k.tables s here known below a inside
      ∙ ap (λ (b : Bool). in_words rows (8 * most_facts) a && b) (sym holds_is)

  next_is : state_number (row_variables n sizes k.starts) (after_row k.effects (64 * a) (row_state n sizes s)) ≡ next_state t a s
  unfolding next_state row_action
  next_is =
      after_number sizes k.effects (64 * a) n (row_state n sizes s) k.starts (action_of t a) _ (ap (λ (x : Action). x.effects) (k.actions_are a inside)) refl
      ∙ ap (λ (vs : List Variable). state_number vs (apply (action_of t a) (row_state n sizes s))) (sym k.variables_are)
      ∙ ap (λ (f : State). state_number t.variables (apply (action_of t a) f)) (sym here_state)

  pub goes_is : in_words here.actions 0 a ≡ true → goes_by here moves s a ≡ next_state t a s
  goes_is there =
      goes_number n actions sizes costs k.conditions k.effects rows moves k.tables s here known below a inside there
      ∙ sym (number_sum sizes k.starts (after_row k.effects (64 * a) (row_state n sizes s)) n)
      ∙ next_is
