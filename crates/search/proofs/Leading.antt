-- The first action by which a state has its entry, as the code finds it.
use Prim.Native.Nat.{ℕ, ◌+◌, ◌-◌, ◌*◌, ◌≤◌, ◌<◌}
use mathlib.Core.Path.{◌≡◌, refl, sym, ap, subst, ◌∙◌}
use mathlib.Core.Bool.{Bool, true, false, not, ◌&&◌}
use mathlib.Core.List.{List, []}
use mathlib.Core.Option.{none, some}
use native.Mathlib.Omega.{arith}
use lib.Dec.{leb, ltb}
use lib.ListN.{get_or}
use borrow.Author.Tests.{leb-false, ltb-true, ltb-false, lt-ltb, le-ltb, not-true}
use Rattle.files.specs.Dense.{row_action}
use Rattle.files.specs.Task.{Action, Task, action_of, action_count}
use Rattle.files.proofs.Logic.{clash, split, split_le, and_split, and_join}
use Rattle.plans.specs.State.{applicable}
use Rattle.distances.specs.States.{state_at}
use Rattle.distances.specs.Table.{Distance, minutes_of, same, step_to, next_state, through, distances, entry_of}
use Rattle.lookup.specs.declared.moves.Move.{Move}
use Rattle.search.specs.declared.first_plan.Here.{Here}
use Rattle.search.specs.FirstPlan.{first_action}
use Rattle.distances.specs.declared.Entry.{Entry}
use Rattle.distances.specs.Entries.{is_none, entry_total, same_entry, after_step, Low}
use Rattle.distances.specs.Rows.{row_states}
use Rattle.bits.specs.Sets.{in_words}
use Rattle.lookup.specs.FactRows.{most_facts, costs_within}
use Rattle.search.specs.declared.first_plan.Step.{Step}
use Rattle.search.specs.ReadOff.{Searched}
use Rattle.search.specs.ReadOff.{goes_by, CanStepFrom, StepFrom, has_by, CanCompare, HasBy, LooksOn, CanLead, Leads, FirstLed}
use Rattle.search.proofs.Going.{goes_below, goes_nowhere, applies_is, goes_is}
use Rattle.distances.proofs.DistanceLaws.{some_none, add_step_minutes}
use Rattle.distances.proofs.Distances.{through_applicable, through_not}
use Rattle.distances.proofs.EntryLaws.{low_near, some_distance, not_same, same_step, step_other, minutes_not_same, far_not_same}
use Rattle.search.proofs.ReadOff.{tight, first_tight}

-- by way of an action that costs more than an entry has minutes there is none
dear_not_same : (a : Action) (y : Entry) (d e : Distance) → e ≡ some (entry_total y) → minutes_of y < a.cost → false ≡ same (step_to a d) e
dear_not_same a y d e q dear = minutes_not_same a y d e q (λ total w m. omega (arith, dear, m, add_step_minutes a total))

-- whether a state has its entry by way of an action, as the code finds it
module _ (t : Task) (look : ℕ → Entry) (searched : Searched) (s : ℕ) (here : Here) (costs : List ℕ) (moves : List Move) (k : Leads t look searched s here costs moves) where
  own_distance : get_or (distances t) s none ≡ some (entry_total (look s))
  own_distance = some_distance (look s) (get_or (distances t) s none) (k.entries_are s k.below) k.own_near

  -- an action that is not applicable
  not_tight : (a : ℕ) → applicable (action_of t a) (state_at t.variables s) ≡ false → tight t (distances t) s a ≡ false
  not_tight a e =
      sym
      (not_same (through t (distances t) s a) (get_or (distances t) s none)
      (λ z. some_none (entry_total (look s)) (sym own_distance ∙ sym z ∙ through_not t (distances t) s a e)))

  cost_is : (a : ℕ) → a < searched.actions → (action_of t a).cost ≡ get_or costs a 0
  unfolding row_action
  cost_is a h = ap (λ (x : Action). x.cost) (k.stepped.actions_are a h)

  -- one that costs more than the state's own entry has minutes
  dear_not_tight : (a : ℕ) → applicable (action_of t a) (state_at t.variables s) ≡ true → minutes_of (look s) < (action_of t a).cost → tight t (distances t) s a ≡ false
  dear_not_tight a e dear =
      ap (λ (d : Distance). same d (get_or (distances t) s none)) (through_applicable t (distances t) s a e)
      ∙ sym (dear_not_same (action_of t a) (look s) (get_or (distances t) (next_state t a s) none) (get_or (distances t) s none) own_distance dear)

  words_are : (a : ℕ) → a < searched.actions → in_words here.actions 0 a ≡ in_words k.rows (8 * most_facts) a && applicable (action_of t a) (state_at t.variables s)
  words_are a h = applies_is t searched.variables searched.actions k.sizes costs k.rows moves k.stepped s here k.here_of k.below a h

  -- one that the words pass over: not applicable, or too dear
  passed_over : (a : ℕ) → a < searched.actions → in_words here.actions 0 a ≡ false → tight t (distances t) s a ≡ false
  unfolding costs_within
  passed_over a h e =
      split (applicable (action_of t a) (state_at t.variables s))
      (λ yes.
      let over : leb (get_or costs a 0) k.most ≡ false =
      split (leb (get_or costs a 0) k.most) (λ w. clash (words_are a h ∙ and_join (k.cheap a h ∙ w) yes) e) (λ w. w) in
      dear_not_tight a yes (omega (arith, leb-false (get_or costs a 0) k.most over, cost_is a h, k.own_within)))
      (not_tight a)

  module _ (a : ℕ) (h : a < searched.actions) (n : ℕ) (goes : n ≡ goes_by here moves s a) where
    abbrev next : Entry
    next = look n

    below_is : n < row_states searched.variables k.sizes
    below_is =
        omega (arith, goes, goes_below searched.variables searched.actions k.sizes costs k.stepped.conditions k.stepped.effects k.rows moves k.stepped.tables s here k.here_of k.below a h)

    has_not : in_words here.actions 0 a ≡ false → has_by (action_of t a) next (look s) ≡ tight t (distances t) s a
    unfolding has_by
    has_not e =
        let same_state : n ≡ s =
        goes ∙ goes_nowhere searched.variables searched.actions k.sizes costs k.stepped.conditions k.stepped.effects k.rows moves k.stepped.tables s here k.here_of k.below a h e in
        ap (λ (m : ℕ). has_by (action_of t a) (look m) (look s)) same_state
        ∙ rw k.own_near (step_other (action_of t a) (look s))
        ∙ sym (passed_over a h e)

    module _ (yes : in_words here.actions 0 a ≡ true) where
      e : applicable (action_of t a) (state_at t.variables s) ≡ true
      e = (and_split (in_words k.rows (8 * most_facts) a) _ (sym (words_are a h) ∙ yes)).1

      there_state : n ≡ next_state t a s
      there_state = goes ∙ goes_is t searched.variables searched.actions k.sizes costs k.rows moves k.stepped s here k.here_of k.below a h yes

      there : next ≡ entry_of (get_or (distances t) (next_state t a s) none)
      there = k.entries_are n below_is ∙ ap (λ (m : ℕ). entry_of (get_or (distances t) m none)) there_state

      -- it leads to where the goal is not reached, or to where it is
      has_far : is_none next ≡ true → has_by (action_of t a) next (look s) ≡ tight t (distances t) s a
      unfolding has_by
      has_far far =
          rw far
          (far_not_same (action_of t a) next (look s) (get_or (distances t) (next_state t a s) none) (get_or (distances t) s none) there far own_distance (low_near (look s) k.own_low)
          ∙ ap (λ (d : Distance). same d (get_or (distances t) s none)) (sym (through_applicable t (distances t) s a e)))

      has_near : is_none next ≡ false → has_by (action_of t a) next (look s) ≡ tight t (distances t) s a
      unfolding has_by
      has_near near =
          rw near
          (same_step (action_of t a) next (look s) (get_or (distances t) (next_state t a s) none) (get_or (distances t) s none) there (k.entries_are s k.below) near k.own_near
          ∙ ap (λ (d : Distance). same d (get_or (distances t) s none)) (sym (through_applicable t (distances t) s a e)))

    has_is : has_by (action_of t a) next (look s) ≡ tight t (distances t) s a
    has_is =
        split (in_words here.actions 0 a) (λ yes. split (is_none next) (has_far yes) (has_near yes)) has_not

  -- an action by which the state has its entry is not passed over
  pub not_passed : (a : ℕ) → a < searched.actions → tight t (distances t) s a ≡ true → in_words here.actions 0 a ≡ true
  not_passed a h e = split (in_words here.actions 0 a) (λ yes. yes) (λ no. clash e (passed_over a h no))

  -- the first of all, where none before it is
  first_is : (a : ℕ) → a < searched.actions → tight t (distances t) s a ≡ true → ((b : ℕ) → b < a → tight t (distances t) s b ≡ false) → a ≡ first_action t (distances t) s 0 (action_count t)
  first_is a h e before =
      let f = first_tight t (distances t) s 0 (action_count t) a (omega arith) (omega (arith, k.stepped.count)) e in
      split_le a (first_action t (distances t) s 0 (action_count t))
      (λ q. omega (arith, f.first a (omega arith) e))
      (λ q. clash f.passes (before (first_action t (distances t) s 0 (action_count t)) q))

-- the actions before this step's were looked at in vain
pub record Led (look : ℕ → Entry) (searched : Searched) (s : ℕ) (here : Here) (costs : List ℕ) (moves : List Move) (step : Step) : Type 0 where
  pub below : step.action.0 < searched.actions
  pub goes : step.next ≡ goes_by here moves s step.action.0
  pub before : (t : Task) → Leads t look searched s here costs moves → (b : ℕ) → b < step.action.0 → tight t (distances t) s b ≡ false

module _ (look : ℕ → Entry) (searched : Searched) (s : ℕ) (here : Here) (costs : List ℕ) (moves : List Move) (asked : CanLead look searched s here costs moves) where
  from : (a : ℕ) → a < searched.actions → CanStepFrom searched a s here moves
  from a h = record { actions_few = asked.actions_few; goes = asked.goes; more = h }

  pub can_begin : CanStepFrom searched 0 s here moves
  can_begin = from 0 asked.more

  pub led_first : (step : Step) → StepFrom searched 0 s here moves step → Led look searched s here costs moves step
  led_first step f =
      record {
        below = f.below;
        goes = f.goes;
        before = λ t k b h. passed_over t look searched s here costs moves k b (omega (arith, f.below)) (f.skipped b (omega arith) h);
      }

  module _ (step : Step) (led : Led look searched s here costs moves step) where
    pub led_compare : CanCompare step.action.0 (look step.next) costs
    led_compare =
        record {
          few = omega (arith, led.below, asked.actions_few);
          low = subst (λ (n : ℕ). is_none (look n) ≡ false → Low (look n)) (sym led.goes) (asked.low step.action.0 led.below);
          cost_most = asked.cost_most step.action.0 led.below;
        }

    pub led_fewer : (after : Step) → StepFrom searched (step.action.0 + 1) s here moves after → searched.actions - after.action.0 < searched.actions - step.action.0
    led_fewer after f = omega (arith, f.first, f.below)

    module _ (b : Bool) (looks : LooksOn searched step (look step.next) costs (look s) b) where
      -- what the test says of a task's own action
      abbrev some_action : Action
      some_action = record { cost = get_or costs step.action.0 0; conditions = []; effects = [] }

      own_test : (t : Task) → Leads t look searched s here costs moves → b ≡ ltb (step.action.0 + 1) searched.actions && not (tight t (distances t) s step.action.0)
      own_test t k =
          looks (action_of t step.action.0) (cost_is t look searched s here costs moves k step.action.0 led.below)
          ∙ ap (λ (x : Bool). ltb (step.action.0 + 1) searched.actions && not x) (has_is t look searched s here costs moves k step.action.0 led.below step.next led.goes)

      module _ (e : b ≡ true) where
        more : step.action.0 + 1 < searched.actions
        more = ltb-true _ _ (and_split (ltb (step.action.0 + 1) searched.actions) _ (sym (looks some_action refl) ∙ e)).0

        pub led_more : CanStepFrom searched (step.action.0 + 1) s here moves
        led_more = from (step.action.0 + 1) more

        here_not : (t : Task) → Leads t look searched s here costs moves → tight t (distances t) s step.action.0 ≡ false
        here_not t k = not-true _ (and_split (ltb (step.action.0 + 1) searched.actions) _ (sym (own_test t k) ∙ e)).1

        pub led_next : (after : Step) → StepFrom searched (step.action.0 + 1) s here moves after → Led look searched s here costs moves after
        led_next after f =
            record {
              below = f.below;
              goes = f.goes;
              before = λ t k c h.
                  split_le (step.action.0 + 1) c
                  (λ q. passed_over t look searched s here costs moves k c (omega (arith, f.below)) (f.skipped c q h))
                  (λ q.
                  split_le step.action.0 c
                  (λ w. let here : step.action.0 ≡ c = omega arith in ap (tight t (distances t) s) (sym here) ∙ here_not t k)
                  (λ w. led.before t k c w));
            }

      module _ (e : b ≡ false) where
        -- it is the first, or the last and none is
        stops : (t : Task) (k : Leads t look searched s here costs moves) → step.action.0 ≡ first_action t (distances t) s 0 (action_count t)
        stops t k =
            split (tight t (distances t) s step.action.0)
            (λ y. first_is t look searched s here costs moves k step.action.0 led.below y (led.before t k))
            (λ n.
            let last : ltb (step.action.0 + 1) searched.actions ≡ false =
            split (ltb (step.action.0 + 1) searched.actions) (λ m. clash (own_test t k ∙ and_join m (ap not n)) e) (λ m. m) in
            let at_end : searched.actions ≤ step.action.0 + 1 = ltb-false _ _ last in
            split_le step.action.0 k.one
            (λ w. let here : k.one ≡ step.action.0 = omega (arith, k.one_below) in clash k.one_leads (ap (tight t (distances t) s) here ∙ n))
            (λ w. clash k.one_leads (led.before t k k.one w)))

        pub led_stop : FirstLed look searched s here costs moves step
        led_stop = record { below = led.below; goes = led.goes; is = stops }

-- whether the state has its entry by way of an action
module _ (a : ℕ) (next : Entry) (costs : List ℕ) (own : Entry) (b : Bool) (none_is : b ≡ is_none next) where
  pub has_none : b ≡ true → HasBy a next costs own false
  unfolding has_by
  has_none far x e = sym (rw (sym none_is ∙ far) refl)

  pub has_some : b ≡ false → (y : Entry) → ((x : Action) → x.cost ≡ get_or costs a 0 → y ≡ after_step x next) → (c : Bool) → c ≡ same_entry y own → HasBy a next costs own c
  unfolding has_by
  has_some near y stepped c is x e = sym (rw (sym none_is ∙ near) (ap (λ (z : Entry). same_entry z own) (sym (stepped x e)) ∙ sym is))

-- a later action is to be looked at
module _ (searched : Searched) (step : Step) (next : Entry) (costs : List ℕ) (own : Entry) where
  pub looks_end : searched.actions ≤ step.action.0 + 1 → LooksOn searched step next costs own false
  looks_end h x e = sym (rw (le-ltb (step.action.0 + 1) searched.actions h) refl)

  pub looks_further : step.action.0 + 1 < searched.actions → (c : Bool) → HasBy step.action.0 next costs own c → LooksOn searched step next costs own (not c)
  looks_further h c has x e = sym (rw (lt-ltb (step.action.0 + 1) searched.actions h) (ap not (sym (has x e))))
