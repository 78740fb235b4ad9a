-- Laws of what the writer of task files writes: the pairs of a row, the records of actions, and the file.
use Prim.Native.Nat.{ℕ, ◌+◌, ◌*◌, ◌-◌, ◌≤◌, ◌<◌}
use mathlib.Core.Path.{◌≡◌, sym, ap, ap₂, ◌∙◌}
use mathlib.Core.List.{List, ◌++◌}
use native.Mathlib.Omega.{arith}
use lib.ListN.{length, get_or, length-append}
use Rattle.files.specs.Below.{tabulate}
use Rattle.files.specs.Bytes.{u16_bytes, u32_bytes, placed}
use Rattle.files.specs.Dense.{row_pairs, row_variable, row_action, held}
use Rattle.files.specs.declared.arrays.Arrays.{Arrays}
use Rattle.files.specs.Lengths.{action_needed, actions_needed}
use Rattle.files.specs.Records.{record_bytes}
use Rattle.files.specs.Task.{Pair, Action, variable_count, action_count}
use Rattle.files.specs.TaskFile.{pair_bytes, variable_bytes, action_body, action_bytes, task_records, task_file}
use Rattle.files.proofs.Countdown.{more_from, none_from}
use Rattle.files.proofs.Tabulate.{tabulate_from_length}
use Rattle.files.proofs.Placed.{placed_then}
use Rattle.files.proofs.RowLaws.{row_pairs_none, row_pairs_skip, row_pairs_next}
use Rattle.files.proofs.Lengths.{u16_bytes_length, record_bytes_length, pair_bytes_length, variable_bytes_length, action_body_length, action_bytes_length, task_records_length}
use Rattle.files.proofs.Writing.{placed_record, placed_signed}

-- the bytes that the actions from a on take, of `count`
module _ (variables : ℕ) (conditions effects : List ℕ) (a count : ℕ) where
  pub actions_needed_none : count ≤ a → actions_needed variables conditions effects a (count - a) ≡ 0
  unfolding actions_needed
  actions_needed_none h = ap (actions_needed variables conditions effects a) (none_from a count h)

  pub actions_needed_next : a < count
      → actions_needed variables conditions effects a (count - a) ≡ action_needed variables conditions effects a + actions_needed variables conditions effects (a + 1) (count - (a + 1))
  unfolding actions_needed
  actions_needed_next h = ap (actions_needed variables conditions effects a) (more_from a count h)

-- the bytes of a row's pairs from variable v on, of `count`
module _ (b : List ℕ) (at : ℕ) (row : List ℕ) (base v count : ℕ) where
  pub placed_pairs_none : count ≤ v → b ≡ placed b at (pair_bytes (row_pairs row base v (count - v)))
  unfolding placed pair_bytes
  placed_pairs_none h = sym (ap (λ (l : List Pair). placed b at (pair_bytes l)) (row_pairs_none row base v (count - v) (omega arith)))

  module _ (value : ℕ) (more : v < count) (is : value ≡ get_or row (base + v) 0) where
    pub placed_pairs_skip : (c : List ℕ) (next : ℕ)
        → c ≡ b
        → next ≡ at
        → value ≡ 255
        → placed c next (pair_bytes (row_pairs row base (v + 1) (count - (v + 1)))) ≡ placed b at (pair_bytes (row_pairs row base v (count - v)))
    placed_pairs_skip c next p q e =
        ap₂ (λ (l : List ℕ) (n : ℕ). placed l n (pair_bytes (row_pairs row base (v + 1) (count - (v + 1))))) p q
        ∙ sym (ap (λ (l : List Pair). placed b at (pair_bytes l)) (row_pairs_skip row base v (count - v) value (more_from v count more) is e))

    pub placed_pairs_next : (c : List ℕ) (next : ℕ)
        → c ≡ placed b at (u16_bytes v ++ u16_bytes value)
        → next ≡ at + 4
        → (value ≡ 255 → ⊥)
        → placed c next (pair_bytes (row_pairs row base (v + 1) (count - (v + 1)))) ≡ placed b at (pair_bytes (row_pairs row base v (count - v)))
    unfolding pair_bytes u16_bytes
    placed_pairs_next c next p q d =
        placed_then b c at next (u16_bytes v ++ u16_bytes value) (pair_bytes (row_pairs row base (v + 1) (count - (v + 1)))) p q
        ∙ sym (ap (λ (l : List Pair). placed b at (pair_bytes l)) (row_pairs_next row base v (count - v) value (more_from v count more) is d))

-- the record of an action from its parts: head, cost and counts, conditions, effects
pub placed_action : (action : Action) (b head counts conditions effects : List ℕ) (at asked set middle : ℕ)
    → asked ≡ length action.conditions
    → set ≡ length action.effects
    → head ≡ placed b at (u16_bytes (8 + 4 * asked + 4 * set) ++ u16_bytes 4)
    → counts ≡ placed head (at + 4) (u32_bytes action.cost ++ u16_bytes asked ++ u16_bytes set)
    → conditions ≡ placed counts (at + 12) (pair_bytes action.conditions)
    → middle ≡ at + 12 + 4 * length action.conditions
    → effects ≡ placed conditions middle (pair_bytes action.effects)
    → effects ≡ placed b at (record_bytes 4 (action_body action))
unfolding action_body u32_bytes u16_bytes
placed_action action b head counts conditions effects at asked set middle p q h n e m f =
    let counted = u32_bytes action.cost ++ u16_bytes (length action.conditions) ++ u16_bytes (length action.effects) in
    let counts_placed : counts ≡ placed head (at + 4) counted = n ∙ ap₂ (λ (i j : ℕ). placed head (at + 4) (u32_bytes action.cost ++ u16_bytes i ++ u16_bytes j)) p q in
    let conditions_placed : conditions ≡ placed head (at + 4) (counted ++ pair_bytes action.conditions) = e ∙ placed_then head counts (at + 4) (at + 12) counted (pair_bytes action.conditions) counts_placed (omega arith) in
    placed_record b head effects at 4 (8 + 4 * asked + 4 * set) (action_body action) h (omega (arith, action_body_length action))
    (f
    ∙ placed_then head conditions (at + 4) middle (counted ++ pair_bytes action.conditions) (pair_bytes action.effects) conditions_placed
    (omega (arith, pair_bytes_length action.conditions)))

-- the file of a task from its parts: header, variables, goal, actions, sign-off
pub placed_task : (d : Arrays) (signer : ℕ) (b header variables goal actions all : List ℕ) (first end : ℕ)
    → header ≡ placed b 0 (record_bytes 1 (u16_bytes d.variables ++ u16_bytes d.actions))
    → variables ≡ placed header 8 (variable_bytes (tabulate d.variables (row_variable d.sizes d.starts)))
    → goal ≡ placed variables (8 + 8 * d.variables) (record_bytes 3 (pair_bytes (row_pairs d.goal 0 0 d.variables)))
    → first ≡ 8 + 8 * d.variables + 4 + 4 * length (row_pairs d.goal 0 0 d.variables)
    → actions ≡ placed goal first (action_bytes (tabulate d.actions (row_action d.variables d.costs d.conditions d.effects)))
    → end ≡ first + actions_needed d.variables d.conditions d.effects 0 d.actions
    → all ≡ placed actions end (record_bytes 5 (u32_bytes signer ++ u32_bytes end))
    → all ≡ placed b 0 (task_file (held d) signer)
unfolding task_file task_records held
placed_task d signer b header variables goal actions all first end h v g f a e s =
    let t = held d in
    let counted = tabulate_from_length (row_variable d.sizes d.starts) 0 d.variables in
    let numbered = tabulate_from_length (row_action d.variables d.costs d.conditions d.effects) 0 d.actions in
    let to_header = record_bytes 1 (u16_bytes (variable_count t) ++ u16_bytes (action_count t)) in
    let to_variables_here = to_header ++ variable_bytes t.variables in
    let to_goal_here = to_variables_here ++ record_bytes 3 (pair_bytes t.goal) in
    let header_placed : header ≡ placed b 0 to_header = h ∙ sym (ap₂ (λ (m n : ℕ). placed b 0 (record_bytes 1 (u16_bytes m ++ u16_bytes n))) counted numbered) in
    let variables_placed : variables ≡ placed b 0 to_variables_here = v ∙ placed_then b header 0 8 to_header (variable_bytes t.variables) header_placed (simp (record_bytes_length, length-append, u16_bytes_length) (omega arith)) in
    let goal_placed : goal ≡ placed b 0 to_goal_here = g ∙ placed_then b variables 0 (8 + 8 * d.variables) to_variables_here (record_bytes 3 (pair_bytes t.goal)) variables_placed (simp (record_bytes_length, length-append, u16_bytes_length, variable_bytes_length) (omega arith)) in
    let actions_placed : actions ≡ placed b 0 (task_records t) = a ∙ placed_then b goal 0 first to_goal_here (action_bytes t.actions) goal_placed (simp (record_bytes_length, length-append, u16_bytes_length, variable_bytes_length, pair_bytes_length) (omega arith)) in
    placed_signed b actions all end signer (task_records t) actions_placed
    (omega (arith, task_records_length t, action_bytes_length d.variables d.costs d.conditions d.effects 0 d.actions))
    s
