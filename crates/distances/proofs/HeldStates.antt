-- What the search asks of arrays holds where the task that they hold is accepted and has few states.
use Prim.Native.Nat.{ℕ, suc, ◌+◌, ◌*◌, ◌≤◌, ◌<◌}
use mathlib.Core.Path.{◌≡◌, refl, sym, ap, ◌∙◌}
use mathlib.Core.Bool.{true}
use mathlib.Core.List.{List, [], ◌∷◌}
use native.Mathlib.Nat.{zero-add}
use native.Mathlib.Omega.{arith}
use lib.ListN.{length, get_or}
use borrow.Author.Tests.{ne_eqb}
use Rattle.files.specs.Task.{Variable, action_count, action_of}
use Rattle.files.specs.Accepted.{accepted_task}
use Rattle.files.specs.Dense.{row_action, held}
use Rattle.files.specs.declared.arrays.Arrays.{Arrays}
use Rattle.files.proofs.Valid.{Valid, task_valid}
use Rattle.plans.specs.State.{State, start_state}
use Rattle.plans.specs.Tally.{list_state}
use Rattle.files.proofs.HeldTask.{held_action, variables_held, actions_held, size_held, start_held, cost_held, condition_valid, effect_valid, goal_valid}
use Rattle.distances.specs.States.{state_count, state_number}
use Rattle.distances.specs.Table.{start_number}
use Rattle.distances.specs.Rows.{row_variables, row_states, ValuesInside, Searchable}
use Rattle.lookup.specs.FactRows.{most_facts, FewFacts, RowsByFact}
use Rattle.lookup.specs.Moves.{WeightsOf, MovesIn}
use Rattle.lookup.specs.declared.moves.Move.{Move}
use Rattle.distances.specs.Tables.{TablesOf}
use Rattle.distances.proofs.RowNumbers.{states_count}
use Rattle.distances.proofs.FactBound.{facts_few}

pub number_same : (vs : List Variable) (s r : State) → ((v : ℕ) → v < length vs → s v ≡ r v) → state_number vs s ≡ state_number vs r
unfolding state_number
number_same [] s r h = refl
number_same (x ∷ xs) s r h =
    rw (h 0 (omega arith), number_same xs (λ v. s (suc v)) (λ v. r (suc v)) (λ v l. h (suc v) (omega arith))) refl

module _ (d : Arrays) where
  pub held_variables : (held d).variables ≡ row_variables d.variables d.sizes d.starts
  unfolding held
  held_variables = refl

  pub held_states : state_count (held d).variables ≡ row_states d.variables d.sizes
  held_states = ap state_count held_variables ∙ sym (states_count d.sizes d.starts d.variables)

  pub held_actions : (a : ℕ) → a < action_count (held d) → action_of (held d) a ≡ row_action d.variables d.costs d.conditions d.effects a
  held_actions a h = held_action d a (omega (arith, actions_held d))

  -- the number of the start state, by the array of the start values
  pub held_start : (number : ℕ) → number ≡ state_number (row_variables d.variables d.sizes d.starts) (list_state d.starts) → number ≡ start_number (held d)
  unfolding start_number start_state list_state
  held_start number e =
      e
      ∙ ap (λ (vs : List Variable). state_number vs (list_state d.starts)) (sym held_variables)
      ∙ number_same (held d).variables (list_state d.starts) (start_state (held d)) (λ v l. sym (start_held d v (omega (arith, variables_held d))))

  module _ (accepted : accepted_task (held d) ≡ true) where
    pub held_valid : Valid (held d)
    held_valid = task_valid (held d) accepted

    pub held_sizes : (v : ℕ) → v < d.variables → 1 ≤ get_or d.sizes v 0
    held_sizes v h = omega (arith, held_valid.size_least v (omega (arith, variables_held d)), size_held d v h)

    held_starts : (v : ℕ) → v < d.variables → get_or d.starts v 0 < get_or d.sizes v 0
    held_starts v h = omega (arith, held_valid.start v (omega (arith, variables_held d)), size_held d v h, start_held d v h)

    pub held_goal : (v : ℕ) → v < d.variables → (get_or d.goal v 0 ≡ 255 → ⊥) → get_or d.goal v 0 < get_or d.sizes v 0
    held_goal v h n =
        let at : get_or d.goal (0 + v) 0 ≡ get_or d.goal v 0 = ap (λ (u : ℕ). get_or d.goal u 0) (zero-add v) in
        omega (arith, at, goal_valid d held_valid v h (ne_eqb (get_or d.goal (0 + v) 0) 255 (λ e. n (sym at ∙ e))), size_held d v h)

    pub held_few : d.variables ≤ 64
    held_few = omega (arith, held_valid.variables_few, variables_held d)

    pub held_actions_few : d.actions ≤ 512
    held_actions_few = omega (arith, held_valid.actions_few, actions_held d)

    pub searchable : state_count (held d).variables ≤ 4096 → Searchable d.variables d.actions d.sizes d.costs d.conditions d.effects
    searchable few =
        record {
          variables_few = held_few;
          actions_few = held_actions_few;
          size_least = held_sizes;
          condition_inside = λ a v h l n. omega (arith, condition_valid d held_valid a v h l (ne_eqb (get_or d.conditions (64 * a + v) 0) 255 n), size_held d v l);
          effect_inside = λ a v h l n. omega (arith, effect_valid d held_valid a v h l (ne_eqb (get_or d.effects (64 * a + v) 0) 255 n), size_held d v l);
          cost_most = λ a h. omega (arith, (held_valid.action a).cost, cost_held d a h);
          states_few = omega (arith, held_states);
        }

    -- few facts
    pub held_facts : state_count (held d).variables ≤ 4096 → (rows : List ℕ) → 8 * most_facts ≤ length rows → FewFacts d.variables d.sizes rows
    held_facts few rows room =
        let size_most : (v : ℕ) → v < d.variables → get_or d.sizes v 0 ≤ 32 = λ v h. omega (arith, held_valid.size_most v, size_held d v h) in
        record { variables_few = held_few; facts_few = facts_few d.sizes d.variables held_few held_sizes size_most (omega (arith, held_states)); room = room }

    -- the tables of its search
    pub tables_of : state_count (held d).variables ≤ 4096 → (weights rows : List ℕ) (moves : List Move) → WeightsOf d.variables d.sizes weights → RowsByFact d.variables d.actions d.sizes d.conditions d.effects rows → 8 * most_facts ≤ length rows
        → MovesIn d.variables d.actions d.sizes d.conditions d.effects moves → TablesOf d weights rows moves
    tables_of few weights rows moves weights_are rows_are rows_long moves_are =
        record {
          numbered = record { variables_few = held_few; size_least = held_sizes; states = refl; few = omega (arith, few, held_states); weights_are = weights_are };
          tables = record { asked = searchable few; rows_are = rows_are; moves_are = moves_are };
          facts = held_facts few rows rows_long;
        }

    pub start_inside : state_count (held d).variables ≤ 4096 → ValuesInside d.variables d.sizes d.starts
    start_inside few = record { few = held_few; states = omega (arith, few, held_states); inside = held_starts }
