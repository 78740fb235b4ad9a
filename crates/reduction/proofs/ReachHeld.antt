-- The actions that lack nothing, when all effects of such actions are followed, are the reached actions of the task that
-- arrays hold.
use Prim.Native.Nat.{ℕ, ◌+◌, ◌*◌, ◌/◌, ◌%◌, ◌<◌}
use mathlib.Core.Path.{◌≡◌, refl, sym, ap, ap₂, ◌∙◌}
use mathlib.Core.Bool.{Bool, true, false, not, ◌&&◌}
use mathlib.Core.List.{List}
use mathlib.Core.Logic.{⊎_elim}
use native.Mathlib.Omega.{arith}
use lib.Dec.{eqb}
use lib.ListN.{get_or, replicate}
use borrow.Author.Tests.{eqb-true, eq-eqb, ne_eqb}
use Rattle.files.specs.Below.{any_below}
use Rattle.files.specs.Dense.{row_pairs, held}
use Rattle.files.specs.declared.arrays.Arrays.{Arrays}
use Rattle.files.specs.Task.{Pair, pair, action_count, action_of, size_of, start_of}
use Rattle.files.proofs.BelowLaws.{any_below_intro, any_below_elim}
use Rattle.files.proofs.HeldTask.{variables_held, actions_held, start_held, conditions_held, effects_held, condition_valid, effect_valid}
use Rattle.files.proofs.Logic.{and_split, and_join, or_split}
use Rattle.files.proofs.Truth.{bit_marked}
use Rattle.files.proofs.Valid.{Valid}
use Rattle.plans.specs.State.{admits, has_fact}
use Rattle.plans.proofs.AdmitsLaws.{admits_own, admits_value}
use Rattle.plans.proofs.FactLaws.{fact_all, all_facts, fact_valid}
use Rattle.marking.specs.Dense.{is_marked, SetWhere, names_at, row_names}
use Rattle.marking.proofs.RoundFacts.{named_inside, names_held}
use Rattle.marking.proofs.RowTests.{row_fact}
use Rattle.reduction.specs.Reach.{sets, fact_reached, condition_reached, action_reached, reached}
use Rattle.reduction.specs.ReachDense.{row_facts, asks_for, lacking, FactsClosed, FactsIn, Followed}
use Rattle.reduction.specs.TurnsRight.{ReachClosed}
use Rattle.reduction.proofs.FreshMarks.{fresh_marks}
use Rattle.reduction.proofs.ReachLaws.{reached_closed, reached_alike}
use Rattle.reduction.proofs.ReachPlans.{start_reached, effect_reached, sets_fact}
use Rattle.reduction.proofs.ReachStates.{lacks_nothing, has_all}

-- a place is that of a variable and a value
place_of : (i : ℕ) → i ≡ 32 * (i / 32) + i % 32
place_of i = omega arith

module _ (d : Arrays) (ok : Valid (held d)) where
  -- the facts of a row of the task
  module _ (row : List ℕ) (base : ℕ) (valid : (v : ℕ) → v < d.variables → eqb (get_or row (base + v) 0) 255 ≡ false → get_or row (base + v) 0 < size_of (held d) v) where
    sizes_alike : (i : ℕ) → row_facts row base d.variables i ≡ row_names false row base d.sizes d.variables i
    unfolding row_names names_at
    sizes_alike i = refl

    -- a place of it
    pub record InRow (i : ℕ) : Type 0 where
      pub known : i / 32 < d.variables
      pub inside : i % 32 < size_of (held d) (i / 32)
      pub fact : has_fact (row_pairs row base 0 d.variables) (i / 32) (i % 32) ≡ true

    row_place : (i : ℕ) → row_facts row base d.variables i ≡ true → InRow i
    row_place i e =
        let v : ℕ = i / 32 in
        let x : ℕ = i % 32 in
        let named : row_names false row base d.sizes d.variables (32 * v + x) ≡ true =
        ap (row_names false row base d.sizes d.variables) (sym (place_of i)) ∙ sym (sizes_alike i) ∙ e in
        let in_task = named_inside d ok false row base valid v x (omega arith) named in
        record { known = in_task.0; inside = in_task.1; fact = sym (names_held d ok false row base valid v x in_task.0 in_task.1) ∙ named }

    place_in_row : (v x : ℕ) → v < d.variables → x < size_of (held d) v → has_fact (row_pairs row base 0 d.variables) v x ≡ true → row_facts row base d.variables (32 * v + x) ≡ true
    place_in_row v x l k e = sizes_alike (32 * v + x) ∙ names_held d ok false row base valid v x l k ∙ e

  -- one condition
  condition_by : (R : ℕ → Bool) (v x : ℕ) → x < size_of (held d) v → fact_reached (held d) R v x ≡ true → condition_reached (held d) R (pair v x) ≡ true
  unfolding condition_reached
  condition_by R v x l e =
      any_below_intro (size_of (held d) v) (λ value. admits (pair v x) value && fact_reached (held d) R v value) x l (and_join (admits_own (pair v x)) e)

  condition_says : (R : ℕ → Bool) (v x : ℕ) → condition_reached (held d) R (pair v x) ≡ true → fact_reached (held d) R v x ≡ true
  unfolding condition_reached
  condition_says R v x e =
      let k = any_below_elim (size_of (held d) v) (λ value. admits (pair v x) value && fact_reached (held d) R v value) e in
      let both = and_split (admits (pair v x) k.0) (fact_reached (held d) R v k.0) k.2 in
      ap (fact_reached (held d) R v) (admits_value (pair v x) k.0 both.0) ∙ both.1

  -- a fact of the task stands at a place
  in_places : (v x : ℕ) → v < d.variables → x < size_of (held d) v → 32 * v + x < 2048
  in_places v x l k = omega (arith, ok.variables_few, variables_held d, ok.size_most v)

  -- the start facts
  start_cell : (v : ℕ) → v < d.variables → get_or d.starts (0 + v) 0 ≡ start_of (held d) v
  start_cell v l = ap (λ (n : ℕ). get_or d.starts n 0) (omega arith) ∙ sym (start_held d v l)

  start_inside : (v : ℕ) → v < d.variables → start_of (held d) v < size_of (held d) v
  start_inside v l = ok.start v (omega (arith, variables_held d))

  start_valid : (v : ℕ) → v < d.variables → eqb (get_or d.starts (0 + v) 0) 255 ≡ false → get_or d.starts (0 + v) 0 < size_of (held d) v
  start_valid v l e = omega (arith, start_cell v l, start_inside v l)

  start_says : (i : ℕ) → row_facts d.starts 0 d.variables i ≡ true → i % 32 ≡ start_of (held d) (i / 32)
  start_says i e =
      let p = row_place d.starts 0 start_valid i e in
      let both = and_split (not (eqb (get_or d.starts (0 + i / 32) 0) 255)) (eqb (get_or d.starts (0 + i / 32) 0) (i % 32)) (sym (row_fact d.starts 0 d.variables (i / 32) p.known (i % 32)) ∙ p.fact) in
      sym (eqb-true (get_or d.starts (0 + i / 32) 0) (i % 32) both.1) ∙ start_cell (i / 32) p.known

  start_place : (v x : ℕ) → v < d.variables → x ≡ start_of (held d) v → row_facts d.starts 0 d.variables (32 * v + x) ≡ true
  start_place v x l e =
      let cell : ℕ = get_or d.starts (0 + v) 0 in
      let is : cell ≡ start_of (held d) v = start_cell v l in
      let small : start_of (held d) v < size_of (held d) v = start_inside v l in
      let there : eqb cell 255 ≡ false = ne_eqb cell 255 (λ q. omega (arith, is, small, ok.size_most v)) in
      place_in_row d.starts 0 start_valid v x l (omega arith) (row_fact d.starts 0 d.variables v l x ∙ and_join (ap not there) (eq-eqb cell x (is ∙ sym e)))

  module _ (rows : List ℕ) (asks : (a i : ℕ) → a < d.actions → asks_for rows a i ≡ row_facts d.conditions (64 * a) d.variables i) where
    -- an action is reached exactly where what it asks for is
    action_by : (R : ℕ → Bool) (a : ℕ) → a < d.actions → ((i : ℕ) → i < 2048 → asks_for rows a i ≡ true → fact_reached (held d) R (i / 32) (i % 32) ≡ true) → action_reached (held d) R a ≡ true
    unfolding action_reached
    action_by R a l h =
        let pairs : List Pair = (action_of (held d) a).conditions in
        all_facts (λ v x. condition_reached (held d) R (pair v x)) pairs
        (λ v x q.
        let f = fact_valid (held d) 0 pairs v x (ok.action a).conditions q in
        let known : v < d.variables = omega (arith, f.known, variables_held d) in
        let small : x < 32 = omega (arith, f.inside, ok.size_most v) in
        let place : ℕ = 32 * v + x in
        let asked : asks_for rows a place ≡ true =
        asks a place l
        ∙ place_in_row d.conditions (64 * a) (λ w k. condition_valid d ok a w l k) v x known f.inside (ap (λ (ps : List Pair). has_fact ps v x) (sym (conditions_held d a l)) ∙ q) in
        let variable : v ≡ place / 32 = omega arith in
        let value : x ≡ place % 32 = omega arith in
        condition_by R v x f.inside (ap₂ (fact_reached (held d) R) variable value ∙ h place (in_places v x known f.inside) asked))

    action_says : (R : ℕ → Bool) (a : ℕ) (l : a < d.actions) → action_reached (held d) R a ≡ true → (i : ℕ) → asks_for rows a i ≡ true → InRow d.conditions (64 * a) (λ w k. condition_valid d ok a w l k) i × (fact_reached (held d) R (i / 32) (i % 32) ≡ true)
    unfolding action_reached
    action_says R a l e i q =
        let p = row_place d.conditions (64 * a) (λ w k. condition_valid d ok a w l k) i (sym (asks a i l) ∙ q) in
        let fact : has_fact (action_of (held d) a).conditions (i / 32) (i % 32) ≡ true = ap (λ (ps : List Pair). has_fact ps (i / 32) (i % 32)) (conditions_held d a l) ∙ p.fact in
        (p, condition_says R (i / 32) (i % 32) (fact_all (λ v x. condition_reached (held d) R (pair v x)) (action_of (held d) a).conditions (i / 32) (i % 32) fact e))

    -- the facts that are reached are closed
    reached_at : ℕ → Bool
    reached_at i = fact_reached (held d) (reached (held d)) (i / 32) (i % 32)

    effect_sets : (a i : ℕ) → a < d.actions → row_facts d.effects (64 * a) d.variables i ≡ true → sets (action_of (held d) a).effects (i / 32) (i % 32) ≡ true
    effect_sets a i l e =
        let p = row_place d.effects (64 * a) (λ w k. effect_valid d ok a w l k) i e in
        sets_fact (action_of (held d) a).effects (i / 32) (i % 32) ∙ ap (λ (ps : List Pair). has_fact ps (i / 32) (i % 32)) (effects_held d a l) ∙ p.fact

    facts_closed : FactsClosed rows d.effects d.variables d.actions reached_at
    unfolding reached_at
    facts_closed a l h i e =
        let below : a < action_count (held d) = omega (arith, actions_held d) in
        effect_reached (held d) (reached (held d)) a (i / 32) (i % 32) below (reached_closed (held d) a below (action_by (reached (held d)) a l h)) (effect_sets a i l e)

    -- the facts after the start facts, and those at the end
    module _ (started facts counts : List ℕ) (start_marks : SetWhere (row_facts d.starts 0 d.variables) (replicate 2048 0) started)
        (f : Followed rows d.effects d.variables d.actions started facts counts) where
      started_is : (i : ℕ) → i < 2048 → is_marked started i ≡ row_facts d.starts 0 d.variables i
      started_is i l =
          ap (λ (n : ℕ). eqb n 1) (fresh_marks 2048 (row_facts d.starts 0 d.variables) started start_marks i l)
          ∙ bit_marked (row_facts d.starts 0 d.variables i)

      facts_sound : FactsIn facts reached_at
      unfolding reached_at
      facts_sound =
          f.least reached_at facts_closed
          (λ i l m. start_reached (held d) (reached (held d)) (i / 32) (i % 32) (start_says i (sym (started_is i l) ∙ m)))

      -- the actions that lack nothing
      abbrev R : ℕ → Bool
      R a = eqb (get_or counts a 0) 0

      R_sound : (a : ℕ) → a < action_count (held d) → R a ≡ true → reached (held d) a ≡ true
      unfolding reached_at
      R_sound a l e =
          let below : a < d.actions = omega (arith, actions_held d) in
          let none : lacking rows facts a ≡ 0 = sym (f.counted a below) ∙ eqb-true (get_or counts a 0) 0 e in
          reached_closed (held d) a l (action_by (reached (held d)) a below (λ i k q. facts_sound i k (lacks_nothing rows facts a none i k q)))

      fact_there : (v x : ℕ) → v < d.variables → x < size_of (held d) v → fact_reached (held d) R v x ≡ true → is_marked facts (32 * v + x) ≡ true
      unfolding fact_reached
      fact_there v x l k e =
          let place : ℕ = 32 * v + x in
          let inside : place < 2048 = in_places v x l k in
          ⊎_elim
          (λ start. f.kept place inside (started_is place inside ∙ start_place v x l (eqb-true x (start_of (held d) v) start)))
          (λ effect.
          let found = any_below_elim (action_count (held d)) (λ a. R a && sets (action_of (held d) a).effects v x) effect in
          let a : ℕ = found.0 in
          let both = and_split (R a) (sets (action_of (held d) a).effects v x) found.2 in
          let below : a < d.actions = omega (arith, found.1, actions_held d) in
          f.follows a below (eqb-true (get_or counts a 0) 0 both.0) place inside
          (place_in_row d.effects (64 * a) (λ w m. effect_valid d ok a w below m) v x l k
          (ap (λ (ps : List Pair). has_fact ps v x) (sym (effects_held d a below)) ∙ sym (sets_fact (action_of (held d) a).effects v x) ∙ both.1)))
          (or_split (eqb x (start_of (held d) v)) (any_below (action_count (held d)) (λ a. R a && sets (action_of (held d) a).effects v x)) e)

      R_closed : ReachClosed (held d) R
      R_closed a l e =
          let below : a < d.actions = omega (arith, actions_held d) in
          eq-eqb (get_or counts a 0) 0
          (f.counted a below
          ∙ has_all rows facts a
          (λ i k q.
          let says = action_says R a below e i q in
          ap (is_marked facts) (place_of i) ∙ fact_there (i / 32) (i % 32) says.0.known says.0.inside says.1))

      -- are the reached ones
      pub reached_are : (a : ℕ) → a < d.actions → R a ≡ reached (held d) a
      reached_are a l = reached_alike (held d) R R_closed R_sound a (omega (arith, actions_held d))
