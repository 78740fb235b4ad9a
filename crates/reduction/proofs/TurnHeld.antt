-- A turn on arrays: what its parts leave is what the definition of a turn says.
use Prim.Native.Nat.{ℕ, ◌+◌, ◌*◌, ◌≤◌, ◌<◌}
use mathlib.Core.Path.{◌≡◌, refl, sym, ap, subst, ◌∙◌}
use mathlib.Core.Bool.{Bool, true, false}
use mathlib.Core.List.{List, []}
use native.Mathlib.Omega.{arith}
use lib.Dec.{eqb}
use lib.ListN.{length, get_or}
use borrow.Author.Tests.{eqb-true, eq-eqb}
use Rattle.files.specs.Below.{all_below, chosen_below, count_below}
use Rattle.files.specs.Clauses.{OriginWithin}
use Rattle.files.specs.Dense.{row_numbers, row_origin, origin_arrays, held, held_origin}
use Rattle.files.specs.declared.arrays.Arrays.{Arrays}
use Rattle.files.specs.declared.arrays.OriginArrays.{OriginArrays}
use Rattle.files.specs.OriginFile.{Origin, VariableOrigin}
use Rattle.files.specs.Task.{Task, variable_count, action_count, size_of}
use Rattle.files.proofs.BelowLaws.{all_below_intro, all_below_elim, chosen_length, Chosen}
use Rattle.files.proofs.CountOrder.{count_most}
use Rattle.files.proofs.HeldTask.{variables_held, actions_held, size_held}
use Rattle.files.proofs.Logic.{clash, split, and_split, and_join}
use Rattle.files.proofs.Tabulate.{tabulate_from_length, tabulate_entry}
use Rattle.files.proofs.Truth.{bit_marked}
use Rattle.files.proofs.Valid.{Valid, task_valid}
use Rattle.marking.specs.Dense.{is_marked}
use Rattle.reduction.specs.Composed.{OriginValues, Composable, Composes, row_unmoved, unmoved_at}
use Rattle.reduction.specs.Clauses.{Numbered, KeptNumbered, ChosenAre}
use Rattle.reduction.specs.Filled.{Marks, Fills, TaskChosen}
use Rattle.reduction.specs.Named.{kept_variable}
use Rattle.reduction.specs.Reach.{reached}
use Rattle.reduction.specs.ReducedBy.{kept_actions, origin_by, kept_at}
use Rattle.reduction.specs.Renumber.{new_value}
use Rattle.reduction.specs.Turns.{struck_to, turn_reduced, turn_task, originals, turn_origin, origin_at, composed, same_task}
use Rattle.reduction.specs.TurnsHeld.{TurnReady, TurnLeaves}
use Rattle.reduction.proofs.FilledArrays.{chosen_numbered}
use Rattle.reduction.proofs.KeptActions.{reduced_chooses, chosen_count}
use Rattle.reduction.proofs.KeptVariables.{reduced_variables}
use Rattle.reduction.proofs.OriginFits.{OriginFits, variable_known}
use Rattle.reduction.proofs.OriginsHeld.{row_through}
use Rattle.reduction.proofs.ReducedHeld.{chosen_alike, number_known}
use Rattle.reduction.proofs.SameTask.{same_task_equal, same_task_says}
use Rattle.reduction.proofs.TurnOrigins.{reduced_entry, reduced_fits}
use Rattle.reduction.proofs.TurnsFall.{Unmoved, unmoved_same, turn_unmoved}
use Rattle.reduction.proofs.Weights.{full_passes, rank_own}

-- a variable origin by its cells
module _ (o : OriginArrays) where
  entry_is : (i : ℕ) → i < o.variables → origin_at (held_origin o) i ≡ row_origin o.numbers o.sizes o.values i
  unfolding held_origin
  entry_is i l = tabulate_entry (row_origin o.numbers o.sizes o.values) o.variables i (record { variable = 0; values = [] }) l

  entry_number : (i : ℕ) → i < o.variables → (origin_at (held_origin o) i).variable ≡ get_or o.numbers i 0
  unfolding row_origin
  entry_number i l = ap (λ (v : VariableOrigin). v.variable) (entry_is i l)

  entry_long : (i : ℕ) → i < o.variables → length (origin_at (held_origin o) i).values ≡ get_or o.sizes i 0
  unfolding row_origin row_numbers
  entry_long i l = ap (λ (v : VariableOrigin). length v.values) (entry_is i l) ∙ tabulate_from_length (λ k. get_or o.values (32 * i + k) 0) 0 (get_or o.sizes i 0)

  entry_value : (i e : ℕ) → i < o.variables → e < get_or o.sizes i 0 → get_or (origin_at (held_origin o) i).values e 0 ≡ get_or o.values (32 * i + e) 0
  unfolding row_origin row_numbers
  entry_value i e l k =
      ap (λ (v : VariableOrigin). get_or v.values e 0) (entry_is i l) ∙ tabulate_entry (λ j. get_or o.values (32 * i + j) 0) (get_or o.sizes i 0) e 0 k

-- what a turn reduces the task to, with its origins
module _ (d : Arrays) (o : OriginArrays) (kept : List ℕ) (ready : TurnReady d o kept) (dr : Arrays) (later : OriginArrays)
    (fills : Fills (held d) kept d.actions dr later) where
  abbrev t : Task
  t = held d

  abbrev A : ℕ → Bool
  A = kept_at t 4

  valid : Valid t
  valid = task_valid t ready.accepted

  pub reduced_is : held dr ≡ turn_reduced t
  unfolding turn_reduced
  reduced_is = fills.task A ready.marks

  later_is : held_origin later ≡ origin_by t A
  later_is = fills.origins A ready.marks

  fits : OriginFits t (held dr) (held_origin later)
  unfolding turn_reduced
  fits = rw (reduced_is, later_is) (reduced_fits t A)

  below : (i : ℕ) → i < later.variables → i < variable_count (held dr)
  below i l = omega (arith, variables_held dr, fills.within.variables)

  number_below : (i : ℕ) → i < later.variables → get_or later.numbers i 0 < d.variables
  number_below i l = omega (arith, variable_known t (held dr) (held_origin later) fits i (below i l), entry_number later i l, variables_held d)

  size_is : (i : ℕ) → i < later.variables → get_or later.sizes i 0 ≡ get_or d.sizes (get_or later.numbers i 0) 0
  size_is i l =
      sym (entry_long later i l)
      ∙ (fits.variable i (below i l)).long
      ∙ ap (size_of t) (entry_number later i l)
      ∙ size_held d (get_or later.numbers i 0) (number_below i l)

  later_inside : OriginValues later dr.sizes
  later_inside i e l k =
      let inside = (fits.variable i (below i l)).inside e (omega (arith, entry_long later i l)) in
      omega (arith, inside, entry_value later i e l k, size_held dr i (omega (arith, fills.within.variables)))

  -- as many variables and actions at most
  variables_count : variable_count (held dr) ≡ count_below (variable_count t) (kept_variable t A)
  unfolding turn_reduced
  variables_count = ap variable_count reduced_is ∙ reduced_variables t A

  actions_count : action_count (held dr) ≡ count_below (action_count t) A
  unfolding turn_reduced
  actions_count = ap action_count reduced_is ∙ chosen_count (reduced_chooses t A)

  variables_few : later.variables ≤ d.variables
  variables_few = omega (arith, fills.within.variables, variables_held dr, variables_count, count_most (variable_count t) (kept_variable t A), variables_held d)

  pub reduced_few : dr.variables ≤ 64
  reduced_few = omega (arith, fills.within.variables, variables_few, valid.variables_few, variables_held d)

  actions_few : action_count (held dr) ≤ d.actions
  actions_few = omega (arith, actions_count, count_most (action_count t) A, actions_held d)

  original_below : (n : ℕ) → n < later.actions → get_or later.originals n 0 < d.actions
  unfolding held_origin row_numbers
  original_below n l =
      let known = fits.actions_rise.below n (omega (arith, fits.actions_long, fills.within.actions, actions_held dr)) in
      let entry = tabulate_entry (λ i. get_or later.originals (0 + i) 0) later.actions n 0 l in
      let at : 0 + n ≡ n = omega arith in
      omega (arith, known, entry, ap (λ (k : ℕ). get_or later.originals k 0) at, actions_held d)

  -- where every variable is kept, the row of a variable has its new values
  module _ (all : (v : ℕ) → v < variable_count t → kept_variable t A v ≡ true) where
    value_cell : (v e : ℕ) → v < variable_count t → e < size_of t v → get_or later.values (32 * v + e) 0 ≡ new_value t A v e
    value_cell v e l k =
        let c : Chosen (kept_variable t A) (variable_count t) v =
        record { number = v; below = l; passes = all v l; rank = rank_own (kept_variable t A) v (λ i h. all i (omega arith)) } in
        let is = ap (λ (x : Origin). origin_at x v) later_is ∙ reduced_entry t A v c in
        let place : v < later.variables = omega (arith, fills.within.variables, variables_held dr, variables_count, rank_own (kept_variable t A) (variable_count t) all) in
        let long : length (origin_at (held_origin later) v).values ≡ size_of t v =
        ap (λ (x : VariableOrigin). length x.values) is ∙ tabulate_from_length (new_value t A v) 0 (size_of t v) in
        sym (entry_value later v e place (omega (arith, long, entry_long later v place)))
        ∙ ap (λ (x : VariableOrigin). get_or x.values e 0) is
        ∙ tabulate_entry (new_value t A v) (size_of t v) e 0 k

  -- the actions that it leaves
  module _ (marks chosen : List ℕ) (left : ℕ) (m : Marks marks dr.actions (reached (held dr))) (are : ChosenAre chosen left dr.actions (is_marked marks)) where
    pub chosen_reached : row_numbers chosen 0 left ≡ chosen_below dr.actions (reached (held dr))
    chosen_reached =
        are.are
        ∙ chosen_alike dr.actions (is_marked marks) (reached (held dr)) (λ a l. ap (λ (n : ℕ). eqb n 1) (m a l) ∙ bit_marked (reached (held dr) a))

    left_is : left ≡ count_below (action_count (held dr)) (reached (held dr))
    unfolding row_numbers
    left_is =
        sym (tabulate_from_length (λ i. get_or chosen (0 + i) 0) 0 left)
        ∙ ap length chosen_reached
        ∙ chosen_length (reached (held dr)) dr.actions
        ∙ ap (λ (n : ℕ). count_below n (reached (held dr))) (sym (actions_held dr))

    pub task_left : (task : Task) → task ≡ struck_to (held dr) (reached (held dr)) → task ≡ turn_task t
    unfolding turn_task
    task_left task e = e ∙ ap (λ (r : Task). struck_to r (reached r)) reduced_is

    -- with their numbers in the task that the turn found
    module _ (left_acts : List ℕ) (act : (j default : ℕ) → j < left → get_or left_acts j default ≡ get_or later.originals (get_or chosen j 0) default) where
      abbrev second : OriginArrays
      second = origin_arrays later.variables left later.numbers later.sizes later.values left_acts

      chosen_below_lem : (j : ℕ) → j < left → get_or chosen j 0 < later.actions
      chosen_below_lem j l = omega (arith, fills.within.actions, (number_known (is_marked marks) dr.actions chosen left are.are j l).0)

      numbers_are : row_numbers left_acts 0 left ≡ originals (held_origin later) (row_numbers chosen 0 left)
      unfolding originals held_origin
      numbers_are =
          row_through left_acts later.originals chosen 0 0 0 left later.actions
          (λ j l. let at : j ≡ 0 + j = omega arith in rw (← at) (chosen_below_lem j l))
          (λ j l. let at : j ≡ 0 + j = omega arith in rw (← at) (act j 0 l ∙ ap (λ (n : ℕ). get_or later.originals n 0) (omega arith)))

      pub second_is : held_origin second ≡ turn_origin t
      unfolding held_origin turn_origin kept_actions
      second_is =
          let variables = ap (λ (x : Origin). x.variables) later_is in
          let actions : row_numbers left_acts 0 left ≡ originals (origin_by t A) (kept_actions (turn_reduced t) (reached (turn_reduced t))) = numbers_are ∙ looked_up in
          λ i. record { variables = variables i; actions = actions i }
        where
          looked_up : originals (held_origin later) (row_numbers chosen 0 left) ≡ originals (origin_by t A) (kept_actions (turn_reduced t) (reached (turn_reduced t)))
          looked_up =
              ap (λ (x : Origin). originals x (row_numbers chosen 0 left)) later_is
              ∙ ap (originals (origin_by t A)) (chosen_reached ∙ ap (λ (n : ℕ). chosen_below n (reached (held dr))) (sym (actions_held dr)) ∙ ap (λ (r : Task). chosen_below (action_count r) (reached r)) reduced_is)

      pub composable : Composable o second
      composable =
          record {
            writable = ready.origin.within.writable;
            variables = record { few = omega (arith, variables_few, ready.origin.within.variables); known = number_inside };
            actions = record { few = omega (arith, left_is, actions_few, ready.origin.within.actions, count_most (action_count (held dr)) (reached (held dr))); known = act_below };
            few_values = λ i l. omega (arith, size_is i l, valid.size_most (get_or later.numbers i 0), size_held d (get_or later.numbers i 0) (number_below i l));
            values = λ i value l k. omega (arith, size_is i l, ready.origin.values (get_or later.numbers i 0) value (number_inside i l) k);
          }
        where
          number_inside : (i : ℕ) → i < later.variables → get_or later.numbers i 0 < o.variables
          number_inside i l = omega (arith, number_below i l, ready.origin.within.variables)

          act_below : (j : ℕ) → j < left → get_or left_acts j 0 < o.actions
          act_below j l = omega (arith, act j 0 l, original_below (get_or chosen j 0) (chosen_below_lem j l), ready.origin.within.actions)

    -- what the parts of the turn ask
    pub left_numbered : Numbered chosen left 512
    left_numbered = chosen_numbered (omega (arith, actions_held dr, actions_few, valid.actions_few, actions_held d)) are

    pub left_within : OriginWithin later.variables left d.sizes
    left_within =
        record {
          limits = record { few_variables = omega (arith, reduced_few, fills.within.variables); few_actions = left_numbered.few };
          few_values = λ i l. let known : i < d.variables = omega (arith, variables_few) in omega (arith, size_held d i known, valid.size_most i);
        }

    pub later_numbered : (left_acts : List ℕ) → ((j default : ℕ) → j < left → get_or left_acts j default ≡ get_or later.originals (get_or chosen j 0) default)
        → KeptNumbered later.numbers later.variables left_acts left
    later_numbered left_acts act =
        let k = composable left_acts act in
        let same = ready.origin.within in
        record {
          variables = record { few = left_within.limits.few_variables; known = λ i l. omega (arith, k.variables.known i l, same.variables, valid.variables_few, variables_held d) };
          actions = record { few = left_numbered.few; known = λ j l. omega (arith, k.actions.known j l, same.actions, valid.actions_few, actions_held d) };
        }

    -- the test whether it moves nothing
    abbrev test : Bool
    test = unmoved_at d.variables d.actions later.variables left d.sizes later.values

    abbrev R : ℕ → Bool
    R = reached (held dr)

    tested : test ≡ true → Unmoved t A (reached (turn_reduced t))
    unfolding unmoved_at row_unmoved turn_reduced
    tested e =
        let counts = and_split (eqb later.variables d.variables) _ e in
        let rest = and_split (eqb left d.actions) _ counts.1 in
        let variables = eqb-true later.variables d.variables counts.0 in
        let actions = eqb-true left d.actions rest.0 in
        let all = full_passes (kept_variable t A) (variable_count t) (omega (arith, fills.within.variables, variables_held d, variables_held dr, variables_count)) in
        record {
          kept = full_passes A (action_count t) (omega (arith, actions_held d, left_is, count_most (action_count (held dr)) R, actions_count));
          left =
              subst (λ (r : Task). (a : ℕ) → a < action_count r → reached r a ≡ true) reduced_is
              (full_passes R (action_count (held dr)) (omega (arith, actions_held d, left_is, actions_few)));
          variables = all;
          values =
              λ v e l k.
              let known : v < d.variables = omega (arith, variables_held d) in
              let row = all_below_elim d.variables (λ w. all_below (get_or d.sizes w 0) (λ z. eqb (get_or later.values (32 * w + z) 0) z)) rest.1 v known in
              let cell = all_below_elim (get_or d.sizes v 0) (λ z. eqb (get_or later.values (32 * v + z) 0) z) row e (omega (arith, size_held d v known)) in
              sym (value_cell all v e l k) ∙ eqb-true (get_or later.values (32 * v + e) 0) e cell;
        }

    testing : Unmoved t A (reached (turn_reduced t)) → test ≡ true
    unfolding unmoved_at row_unmoved turn_reduced
    testing u =
        let every : (a : ℕ) → a < action_count (held dr) → R a ≡ true = subst (λ (r : Task). (a : ℕ) → a < action_count r → reached r a ≡ true) (sym reduced_is) u.left in
        and_join (eq-eqb later.variables d.variables (omega (arith, fills.within.variables, variables_held d, variables_held dr, variables_count, rank_own (kept_variable t A) (variable_count t) u.variables)))
        (and_join (eq-eqb left d.actions (omega (arith, left_is, rank_own R (action_count (held dr)) every, actions_count, rank_own A (action_count t) u.kept, actions_held d)))
        (all_below_intro d.variables (λ v. all_below (get_or d.sizes v 0) (λ z. eqb (get_or later.values (32 * v + z) 0) z))
        (λ v l.
        let known : v < variable_count t = omega (arith, variables_held d) in
        all_below_intro (get_or d.sizes v 0) (λ z. eqb (get_or later.values (32 * v + z) 0) z)
        (λ z k.
        let inside : z < size_of t v = omega (arith, size_held d v l) in
        eq-eqb (get_or later.values (32 * v + z) 0) z (value_cell u.variables v z known inside ∙ u.values v z known inside)))))

    same_turn : Unmoved t A (reached (turn_reduced t)) → turn_task t ≡ t
    unfolding turn_task turn_reduced
    same_turn u = unmoved_same t valid A (reached (turn_reduced t)) u

    pub unmoved_is : test ≡ same_task t (turn_task t)
    unmoved_is =
        split test
        (λ e. e ∙ sym (same_task_equal t (turn_task t) (sym (same_turn (tested e)))))
        (λ e.
        split (same_task t (turn_task t))
        (λ s. clash (testing (turn_unmoved t valid (sym (same_task_says t (turn_task t) s)))) e)
        (λ s. e ∙ sym s))

    -- the turn is the last
    pub leaves_same : (result : Bool) → result ≡ test → result ≡ true → TurnLeaves t (held_origin o) d o true
    leaves_same result is e =
        let same : same_task t (turn_task t) ≡ true = sym unmoved_is ∙ sym is ∙ e in
        record { task = same_task_says t (turn_task t) same; unchanged = sym same; origin = refl; inside = ready.origin }

    -- the turn leaves another task
    module _ (left_acts : List ℕ) (act : (j default : ℕ) → j < left → get_or left_acts j default ≡ get_or later.originals (get_or chosen j 0) default)
        (d' : Arrays) (chose : TaskChosen chosen left dr d') (o' : OriginArrays) (both : Composable o (second left_acts act) → Composes o (second left_acts act) o') where
      pub leaves_other : (result : Bool) → result ≡ test → result ≡ false → TurnLeaves t (held_origin o) d' o' false
      leaves_other result is e =
          let k = both (composable left_acts act) in
          record {
            task = task_left _ (chose.task R reduced_few chosen_reached);
            unchanged = sym (sym unmoved_is ∙ sym is ∙ e);
            origin = k.origins ∙ ap (composed (held_origin o)) (second_is left_acts act);
            inside =
                record {
                  within = record { variables = k.variables ∙ fills.within.variables ∙ sym chose.variables; actions = k.actions ∙ sym chose.actions; writable = k.writable };
                  values = subst (OriginValues o') (sym chose.sizes) (k.values dr.sizes later_inside);
                };
          }
