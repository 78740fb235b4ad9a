-- The loop over the operators: what is left to be read and stored makes of the arrays what all operators make of them.
use Prim.Native.Nat.{ℕ, suc, ◌+◌, ◌-◌, ◌*◌, ◌≤◌, ◌<◌}
use mathlib.Core.Path.{◌≡◌, refl, sym, ap, ap₂, ◌∙◌}
use mathlib.Core.Bool.{true, false}
use mathlib.Core.List.{List, [], ◌∷◌, map}
use native.Mathlib.Omega.{arith}
use Rattle.files.proofs.Logic.{clash}
use Rattle.files.specs.declared.arrays.Arrays.{Arrays}
use Rattle.files.specs.declared.refusals.Refusal.{Refusal}
use Rattle.files.specs.Bytes.{placed}
use Rattle.files.specs.Outcome.{refused}
use Rattle.translator.proofs.Calls.{closed, after_shut}
use Rattle.files.specs.Rows.{filled_rows}
use Rattle.translator.specs.Cursors.{Cursor}
use Rattle.translator.specs.OperatorContracts.{cost_by, conditions_of, effects_of, OperatorRead, OperatorsRead, RowsOnly}
use Rattle.translator.specs.Format.{repeat, cursor_refused, is_open, cursor_after, value_after}
use Rattle.translator.specs.Sas.{Operator}
use Rattle.translator.specs.Text.{each, operator}
use Rattle.translator.proofs.ReadingLaws.{after_refused, open_before}
use Rattle.translator.proofs.RepeatReading.{each_more, each_value}

module _ (s : List ℕ) (c : Cursor) (count : ℕ) (sizes : List ℕ) (metric : ℕ) (costs₀ conditions₀ effects₀ : List ℕ) where
  -- what is left from action a on
  pub record OperatorsLeft (here : Cursor) (a : ℕ) (costs conditions effects : List ℕ) : Type 0 where
    pub cursor : cursor_after (each (operator sizes) (count - a)) s here ≡ cursor_after (each (operator sizes) count) s c
    pub costs_rest : is_open (cursor_after (each (operator sizes) count) s c) ≡ true
        → placed costs a (map (λ o. cost_by metric o.cost) (value_after (each (operator sizes) (count - a)) s here)) ≡ placed costs₀ 0 (map (λ o. cost_by metric o.cost) (value_after (each (operator sizes) count) s c))
    pub conditions_rest : is_open (cursor_after (each (operator sizes) count) s c) ≡ true
        → filled_rows conditions (64 * a) (map conditions_of (value_after (each (operator sizes) (count - a)) s here)) ≡ filled_rows conditions₀ 0 (map conditions_of (value_after (each (operator sizes) count) s c))
    pub effects_rest : is_open (cursor_after (each (operator sizes) count) s c) ≡ true
        → filled_rows effects (64 * a) (map effects_of (value_after (each (operator sizes) (count - a)) s here)) ≡ filled_rows effects₀ 0 (map effects_of (value_after (each (operator sizes) count) s c))

  pub operators_start : OperatorsLeft c 0 costs₀ conditions₀ effects₀
  operators_start =
      let all_left : count - 0 ≡ count = omega arith in
      record {
        cursor = ap (λ (n : ℕ). cursor_after (each (operator sizes) n) s c) all_left;
        costs_rest = λ o. ap (λ (n : ℕ). placed costs₀ 0 (map (λ o. cost_by metric o.cost) (value_after (each (operator sizes) n) s c))) all_left;
        conditions_rest = λ o. ap (λ (n : ℕ). filled_rows conditions₀ (64 * 0) (map conditions_of (value_after (each (operator sizes) n) s c))) all_left;
        effects_rest = λ o. ap (λ (n : ℕ). filled_rows effects₀ (64 * 0) (map effects_of (value_after (each (operator sizes) n) s c))) all_left;
      }

  module _ (here : Cursor) (a : ℕ) (costs conditions effects : List ℕ) (inv : OperatorsLeft here a costs conditions effects) where
    pub operators_next : (next : Cursor) (costs_now conditions_now effects_now : List ℕ) → a < count → OperatorRead s here sizes metric costs conditions effects a next costs_now conditions_now effects_now
        → OperatorsLeft next (a + 1) costs_now conditions_now effects_now
    unfolding placed filled_rows
    operators_next next costs_now conditions_now effects_now h one =
        let n : ℕ = count - (a + 1) in
        let more : count - a ≡ suc n = omega arith in
        let o : Operator = value_after (operator sizes) s here in
        let moved : cursor_after (each (operator sizes) n) s next ≡ cursor_after (each (operator sizes) count) s c =
        ap (cursor_after (each (operator sizes) n) s) one.cursor ∙ sym (each_more (operator sizes) s n here) ∙ sym (ap (λ (k : ℕ). cursor_after (each (operator sizes) k) s here) more) ∙ inv.cursor in
        let rest : List Operator = value_after (each (operator sizes) n) s next in
        let others : value_after (each (operator sizes) (count - a)) s here ≡ o ∷ rest =
        ap (λ (k : ℕ). value_after (each (operator sizes) k) s here) more ∙ each_value (operator sizes) s n here
        ∙ sym (ap (λ (x : Cursor). o ∷ value_after (each (operator sizes) n) s x) one.cursor) in
        let open' : is_open (cursor_after (each (operator sizes) count) s c) ≡ true → is_open next ≡ true = λ q. open_before (each (operator sizes) n) s next (ap is_open moved ∙ q) in
        let further : 64 * (a + 1) ≡ 64 * a + 64 = omega arith in
        record {
          cursor = moved;
          costs_rest = λ q.
              ap (λ (l : List ℕ). placed l (a + 1) (map (λ o. cost_by metric o.cost) rest)) (one.cost (open' q))
              ∙ sym (ap (λ (l : List Operator). placed costs a (map (λ o. cost_by metric o.cost) l)) others)
              ∙ inv.costs_rest q;
          conditions_rest = λ q.
              ap₂ (λ (l : List ℕ) (b : ℕ). filled_rows l b (map conditions_of rest)) (one.conditions_row (open' q)) further
              ∙ sym (ap (λ (l : List Operator). filled_rows conditions (64 * a) (map conditions_of l)) others)
              ∙ inv.conditions_rest q;
          effects_rest = λ q.
              ap₂ (λ (l : List ℕ) (b : ℕ). filled_rows l b (map effects_of rest)) (one.effects_row (open' q)) further
              ∙ sym (ap (λ (l : List Operator). filled_rows effects (64 * a) (map effects_of l)) others)
              ∙ inv.effects_rest q;
        }

    pub operators_stop : is_open here ≡ false → here ≡ cursor_after (each (operator sizes) count) s c
    operators_stop d = sym (after_refused (each (operator sizes) (count - a)) s here d) ∙ inv.cursor

    pub operators_end : count ≤ a → OperatorsRead s c count sizes metric costs₀ conditions₀ effects₀ here costs conditions effects
    unfolding each repeat cursor_after value_after placed filled_rows
    operators_end h =
        let none_left : count - a ≡ 0 = omega arith in
        let moved : here ≡ cursor_after (each (operator sizes) count) s c = sym (ap (λ (n : ℕ). cursor_after (each (operator sizes) n) s here) none_left) ∙ inv.cursor in
        let empty : value_after (each (operator sizes) (count - a)) s here ≡ [] = ap (λ (n : ℕ). value_after (each (operator sizes) n) s here) none_left in
        record {
          cursor = moved;
          costs_read = λ q. sym (ap (λ (l : List Operator). placed costs a (map (λ o. cost_by metric o.cost) l)) empty) ∙ inv.costs_rest (sym (ap is_open moved) ∙ q);
          conditions_read = λ q. sym (ap (λ (l : List Operator). filled_rows conditions (64 * a) (map conditions_of l)) empty) ∙ inv.conditions_rest (sym (ap is_open moved) ∙ q);
          effects_read = λ q. sym (ap (λ (l : List Operator). filled_rows effects (64 * a) (map effects_of l)) empty) ∙ inv.effects_rest (sym (ap is_open moved) ∙ q);
        }

  -- nothing is stored behind a refusal
  pub operators_up : (r : Cursor) (costs conditions effects : List ℕ) → r ≡ cursor_after (each (operator sizes) count) s c → is_open r ≡ false → OperatorsRead s c count sizes metric costs₀ conditions₀ effects₀ r costs conditions effects
  operators_up r costs conditions effects e d = record { cursor = e; costs_read = λ o. clash o d; conditions_read = λ o. clash o d; effects_read = λ o. clash o d }

pub operators_shut : (s : List ℕ) (e : Refusal) (count : ℕ) (sizes : List ℕ) (metric : ℕ) (costs conditions effects costs_now conditions_now effects_now : List ℕ)
    → OperatorsRead s (cursor_refused (refused e)) count sizes metric costs conditions effects (cursor_refused (refused e)) costs_now conditions_now effects_now
operators_shut s e count sizes metric costs conditions effects costs_now conditions_now effects_now =
    operators_up s _ count sizes metric costs conditions effects _ costs_now conditions_now effects_now (after_shut s e (each (operator sizes) count)) (closed e)

-- the arrays of the actions, one change behind another
pub rows_same : (a : Arrays) → RowsOnly a a
rows_same a = record { variables = refl; actions = refl; sizes = refl; starts = refl; goal = refl }

pub rows_then : (a b c : Arrays) → RowsOnly a b → RowsOnly b c → RowsOnly a c
rows_then a b c p q =
    record { variables = q.variables ∙ p.variables; actions = q.actions ∙ p.actions; sizes = q.sizes ∙ p.sizes; starts = q.starts ∙ p.starts; goal = q.goal ∙ p.goal }
