-- The arrays that the decoder fills hold the task that it read, where that task is accepted.
use Prim.Native.Nat.{ℕ, ◌+◌, ◌*◌, ◌%◌, ◌≤◌, ◌<◌}
use mathlib.Core.Path.{◌≡◌, refl, sym, ap, ap₂, ◌∙◌}
use mathlib.Core.Bool.{true}
use mathlib.Core.List.{List, [], ◌∷◌, map}
use native.Mathlib.Omega.{arith}
use lib.ListN.{length, get_or, length-map, get_or-map}
use Rattle.files.specs.Below.{tabulate}
use Rattle.files.specs.Outcome.{Outcome}
use Rattle.files.specs.Bytes.{Octets, placed}
use Rattle.files.specs.Clauses.{CostsOf, TaskRead}
use Rattle.files.specs.Task.{Pair, Action, Task, variable, action, variable_count, action_count, variable_of, action_of, size_of}
use Rattle.files.specs.TaskFile.{variables_in, actions_in, actions_place, check_task, variables_from, actions_from, task_of}
use Rattle.files.specs.Accepted.{valid_pairs}
use Rattle.files.specs.Dense.{row_pairs, row_variable, row_action, held, arrays}
use Rattle.files.specs.declared.arrays.Arrays.{Arrays}
use Rattle.files.specs.Rows.{cleared, filled, filled_rows, stored_sizes, stored_starts, stored_costs, condition_lists, effect_lists, variables_stored, goal_stored, actions_stored, task_stored}
use Rattle.files.proofs.Done.{facts}
use Rattle.files.proofs.Valid.{Valid, task_valid}
use Rattle.files.proofs.TaskChecked.{variable_count_lem, action_count_lem, task_accepted}
use Rattle.files.proofs.Placed.{placed_in}
use Rattle.files.proofs.Tabulate.{tabulate_is}
use Rattle.files.proofs.RowLaws.{Ordered, cell_of, row_cell, rows_cell, row_pairs_is}

-- a list of numbers placed at the front of an array, one for each element of a list
entry_placed : {A : Type 0} (f : A → ℕ) (l : List A) (d : A) (b : List ℕ) (i : ℕ) → f d ≡ 0 → length l ≤ length b → i < length l
    → get_or (placed b 0 (map f l)) i 0 ≡ f (get_or l i d)
entry_placed f l d b i z r h =
    ap (λ (n : ℕ). get_or (placed b 0 (map f l)) n 0) (omega arith)
    ∙ placed_in b 0 (map f l) i (omega (arith, length-map l f)) (omega (arith, length-map l f))
    ∙ ap (get_or (map f l) i) (sym z)
    ∙ get_or-map f l i d

module _ (t : Task) (ok : Valid t) where
  -- the pairs of an accepted task are ordered
  pub pairs_ordered : (at_least : ℕ) (ps : List Pair) → valid_pairs t at_least ps ≡ true → Ordered (variable_count t) at_least ps
  unfolding valid_pairs
  pairs_ordered at_least [] e = tt
  pairs_ordered at_least (p ∷ ps) e =
      let q = simp facts at e in
      (q.0, q.1.0, omega (arith, q.1.1.0, ok.size_most p.variable), pairs_ordered (p.variable + 1) ps q.1.1.1)

  held_variables : (sizes starts : List ℕ) → 64 ≤ length sizes → 64 ≤ length starts
      → tabulate (variable_count t) (row_variable (placed sizes 0 (stored_sizes t.variables)) (placed starts 0 (stored_starts t.variables))) ≡ t.variables
  unfolding row_variable stored_sizes stored_starts
  held_variables sizes starts a b =
      tabulate_is _ (variable_count t) t.variables (variable 0 0) refl
      (λ v h.
      let size : get_or (placed sizes 0 (map (λ x. x.size % 256) t.variables)) v 0 ≡ size_of t v =
      entry_placed (λ x. x.size % 256) t.variables (variable 0 0) sizes v refl (omega (arith, ok.variables_few)) h
      ∙ omega (arith, ok.size_most v) in
      let start : get_or (placed starts 0 (map (λ x. x.start % 256) t.variables)) v 0 ≡ (variable_of t v).start =
      entry_placed (λ x. x.start % 256) t.variables (variable 0 0) starts v refl (omega (arith, ok.variables_few)) h
      ∙ omega (arith, ok.size_most v, ok.start v h) in
      λ i. variable (size i) (start i))

  held_goal : (goal : List ℕ) → 64 ≤ length goal → row_pairs (filled (cleared goal 0 64) 0 t.goal) 0 0 (variable_count t) ≡ t.goal
  held_goal goal r =
      row_pairs_is (variable_count t) _ 0 0 (variable_count t) t.goal (omega arith) (pairs_ordered 0 t.goal ok.goal)
      (λ v a b. row_cell (variable_count t) goal 0 t.goal v ok.variables_few (omega (arith, ok.variables_few)) (omega arith) (pairs_ordered 0 t.goal ok.goal))

  -- the rows of one list of pairs an action
  held_rows : (f : Action → List Pair) (rows : List ℕ) → f (action 0 [] []) ≡ [] → 64 * action_count t ≤ length rows
      → ((a : ℕ) → a < action_count t → Ordered (variable_count t) 0 (f (action_of t a))) → (a : ℕ) → a < action_count t
      → row_pairs (filled_rows rows 0 (map f t.actions)) (64 * a) 0 (variable_count t) ≡ f (action_of t a)
  held_rows f rows z r o a h =
      let lists : List (List Pair) = map f t.actions in
      let at : (k : ℕ) → get_or lists k [] ≡ f (action_of t k) = λ k. ap (get_or lists k) (sym z) ∙ get_or-map f t.actions k (action 0 [] []) in
      let count : length lists ≡ action_count t = length-map t.actions f in
      row_pairs_is (variable_count t) _ (64 * a) 0 (variable_count t) (f (action_of t a)) (omega arith) (o a h)
      (λ v x y.
      ap (λ (i : ℕ). get_or (filled_rows rows 0 lists) i 0) (omega arith)
      ∙ rows_cell (variable_count t) rows 0 lists a v ok.variables_few (omega (arith, ok.variables_few)) (omega arith) (omega arith)
      (λ k l. rw at (o k (omega arith)))
      ∙ ap (λ (ps : List Pair). cell_of ps v) (at a))

  held_actions : (costs conditions effects : List ℕ) → action_count t ≤ length costs → 64 * action_count t ≤ length conditions → 64 * action_count t ≤ length effects
      → tabulate (action_count t) (row_action (variable_count t) (placed costs 0 (stored_costs t.actions)) (filled_rows conditions 0 (condition_lists t.actions)) (filled_rows effects 0 (effect_lists t.actions))) ≡ t.actions
  unfolding row_action stored_costs condition_lists effect_lists
  held_actions costs conditions effects a b c =
      tabulate_is _ (action_count t) t.actions (action 0 [] []) refl
      (λ k h.
      let cost = entry_placed (λ x. x.cost) t.actions (action 0 [] []) costs k refl a h in
      let asked = held_rows (λ x. x.conditions) conditions refl b (λ j l. pairs_ordered 0 (action_of t j).conditions (ok.action j).conditions) k h in
      let set = held_rows (λ x. x.effects) effects refl c (λ j l. pairs_ordered 0 (action_of t j).effects (ok.action j).effects) k h in
      λ i. action (cost i) (asked i) (set i))

  pub held_task : (sizes starts goal costs conditions effects : List ℕ)
      → 64 ≤ length sizes → 64 ≤ length starts → 64 ≤ length goal → action_count t ≤ length costs → 64 * action_count t ≤ length conditions → 64 * action_count t ≤ length effects
      → held (arrays (variable_count t) (action_count t)
      (placed sizes 0 (stored_sizes t.variables))
      (placed starts 0 (stored_starts t.variables))
      (filled (cleared goal 0 64) 0 t.goal)
      (placed costs 0 (stored_costs t.actions))
      (filled_rows conditions 0 (condition_lists t.actions))
      (filled_rows effects 0 (effect_lists t.actions)))
      ≡ t
  unfolding held
  held_task sizes starts goal costs conditions effects a b c d e f =
      let vs = held_variables sizes starts a b in
      let ps = held_goal goal c in
      let acts = held_actions costs conditions effects d e f in
      λ i. record { variables = vs i; goal = ps i; actions = acts i }

-- the same of a file whose check is done, in the decoder's own numbers
module _ (f : List ℕ) (octets : Octets f) (passes : (check_task f).number ≡ 0) where
  valid : Valid (task_of f)
  valid = task_valid (task_of f) (task_accepted f octets passes)

  pub variables_in_few : variables_in f ≤ 64
  variables_in_few = omega (arith, valid.variables_few, variable_count_lem f)

  pub actions_in_few : actions_in f ≤ 512
  actions_in_few = omega (arith, valid.actions_few, action_count_lem f)

  pub held_costs : (at actions : ℕ) (costs₀ costs : List ℕ) → at ≡ actions_place f → actions ≡ actions_in f → 512 ≤ length costs₀
      → costs ≡ placed costs₀ 0 (stored_costs (actions_from f at actions)) → CostsOf (task_of f) costs
  unfolding task_of stored_costs
  held_costs at actions costs₀ costs et ea long e a h =
      ap (λ (l : List ℕ). get_or l a 0) (e ∙ ap (λ (l : List Action). placed costs₀ 0 (stored_costs l)) (ap₂ (actions_from f) et ea))
      ∙ entry_placed (λ x. x.cost) (task_of f).actions (action 0 [] []) costs₀ a refl (omega (arith, valid.actions_few)) h

  -- its task in arrays
  pub held_file : (d : Arrays) → 64 ≤ length d.sizes → 64 ≤ length d.starts → 64 ≤ length d.goal → 512 ≤ length d.costs → 32768 ≤ length d.conditions → 32768 ≤ length d.effects
      → held (task_stored (task_of f) d) ≡ task_of f
  held_file d ls lt lg lc lo le =
      let few : action_count (task_of f) ≤ 512 = valid.actions_few in
      held_task (task_of f) valid d.sizes d.starts d.goal d.costs d.conditions d.effects ls lt lg (omega arith) (omega arith) (omega arith)

  -- what the stages of the reader store
  pub file_stored : (d : Arrays) (variables actions : ℕ) (listed aimed done : Arrays) → variables ≡ variables_in f → actions ≡ actions_in f
      → listed ≡ variables_stored 0 (variables_from f 8 variables) (record d { variables = variables; actions = actions }) → aimed ≡ goal_stored (task_of f).goal listed
      → done ≡ actions_stored 0 (actions_from f (actions_place f) aimed.actions) aimed → done ≡ task_stored (task_of f) d
  unfolding task_of
  file_stored d variables actions listed aimed done ev ea el em ed =
      let t : Task = task_of f in
      let listed_from : ℕ → ℕ → ℕ → Arrays = λ n v a. variables_stored 0 (variables_from f 8 n) (record d { variables = v; actions = a }) in
      let with_actions : Arrays → Arrays = λ x. actions_stored 0 (actions_from f (actions_place f) x.actions) x in
      ed ∙ ap with_actions (em ∙ ap (goal_stored t.goal) (el ∙ ap₂ (λ (v a : ℕ). listed_from v v a) ev ea))
      ∙ ap₂ (λ (v a : ℕ). actions_stored 0 t.actions (goal_stored t.goal (listed_from (variables_in f) v a))) (sym (variable_count_lem f)) (sym (action_count_lem f))

-- a file that is accepted has been read
pub task_read : (f : List ℕ) (octets : Octets f) (before after : Arrays) (r : Outcome) → r ≡ check_task f → r.number ≡ 0
    → after.variables ≡ variables_in f → after.actions ≡ actions_in f → held after ≡ task_of f → TaskRead f before after r
task_read f octets before after r e z v a h =
    let passes : (check_task f).number ≡ 0 = ap (λ (o : Outcome). o.number) (sym e) ∙ z in
    record {
      outcome = e;
      task = λ _. h;
      variables = λ _. v;
      actions = λ _. a;
      limits = λ _. record { few_variables = omega (arith, v, variables_in_few f octets passes); few_actions = omega (arith, a, actions_in_few f octets passes) };
      untouched = λ refused. absurd (refused z);
    }
