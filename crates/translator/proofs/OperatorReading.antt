-- An operator, from the code's own steps: its fields one behind another, its rows and its cost.
use Prim.Native.Nat.{ℕ, ◌*◌, ◌≤◌}
use mathlib.Core.Path.{◌≡◌, refl, sym, ap, ap₂, subst, ◌∙◌}
use mathlib.Core.Bool.{true, false}
use mathlib.Core.List.{List, [], ◌∷◌, ◌++◌}
use native.Mathlib.Omega.{arith}
use lib.Dec.{eqb, leb}
use lib.ListN.{set}
use borrow.Author.Tests.{eq-eqb, ne_eqb}
use Rattle.files.proofs.Logic.{split, clash, cond_case}
use Rattle.files.specs.Rows.{cleared, filled, stored as row_stored}
use Rattle.files.specs.Task.{Pair}
use Rattle.digits.specs.Decimal.{ascii}
use Rattle.translator.specs.Cursors.{Cursor}
use Rattle.translator.specs.Cursors.{ReadNumber}
use Rattle.translator.specs.Clauses.{with_number, number_after, judged, number_by, same}
use Rattle.translator.specs.ListContracts.{Given, ListRead}
use Rattle.translator.specs.OperatorContracts.{EffectsStored, EffectsRead, cost_by, conditions_of, effects_of, OperatorRead}
use Rattle.translator.specs.Fields.{word, name}
use Rattle.translator.specs.Format.{is_open, field_after, fault_after, step_after, cursor_after, value_after}
use Rattle.translator.specs.Sas.{Effect, Operator, line_feed}
use Rattle.translator.specs.Stated.{variables_of, old_pairs, new_pairs}
use Rattle.translator.specs.Text.{says, count, conditions, effects, operator}
use Rattle.translator.proofs.ReadingLaws.{after_bind, value_bind, open_before}
use Rattle.translator.proofs.StepReading.{with_number_cursor, with_number_value, with_number_same, with_number_is}
use Rattle.translator.proofs.CountReading.{count_read, count_most}
use Rattle.translator.proofs.InsideReading.{field_before, after_with_number}

pub cost_one : (metric cost : ℕ) → metric ≡ 0 → 1 ≡ cost_by metric cost
unfolding cost_by
cost_one metric cost e = rw (eq-eqb metric 0 e) refl

pub cost_written : (metric cost : ℕ) → (metric ≡ 0 → ⊥) → cost ≡ cost_by metric cost
unfolding cost_by
cost_written metric cost d = rw (ne_eqb metric 0 d) refl

filled_both : (row : List ℕ) (base : ℕ) (ps qs : List Pair) → filled (filled row base ps) base qs ≡ filled row base (ps ++ qs)
unfolding filled
filled_both row base [] qs = refl
filled_both row base (p ∷ ps) qs = filled_both (row_stored row base p.variable p.value) base ps qs

-- the limit is the written cost's
pub cost_read_lem : (s : List ℕ) (c : Cursor) (metric : ℕ) (n : ReadNumber) (spent : ℕ) (j : Cursor) (r : ReadNumber) → n ≡ number_after line_feed s c → spent ≡ cost_by metric n.value
    → j ≡ judged n.cursor (leb n.value 1000000) 4 c.at → r ≡ with_number j spent → r ≡ number_by (count 1000000) (cost_by metric) s c
unfolding number_by
cost_read_lem s c metric n spent j r is e q t =
    let read : with_number j n.value ≡ with_number (cursor_after (count 1000000) s c) (value_after (count 1000000) s c) = count_read s c n is 1000000 j (with_number j n.value) (omega arith) q refl in
    let moved : j ≡ cursor_after (count 1000000) s c = sym (with_number_cursor j n.value (with_number j n.value) refl) ∙ with_number_cursor _ _ (with_number j n.value) read in
    t
    ∙ with_number_same j spent (cost_by metric (value_after (count 1000000) s c))
    (λ o.
    let value : n.value ≡ value_after (count 1000000) s c =
    sym (with_number_value j n.value (with_number j n.value) refl o) ∙ with_number_value _ _ (with_number j n.value) read (sym (ap is_open moved) ∙ o) in
    e ∙ ap (cost_by metric) value)
    ∙ ap (λ (x : Cursor). with_number x (cost_by metric (value_after (count 1000000) s c))) moved

pub cost_most : (s : List ℕ) (c : Cursor) (metric : ℕ) (r : ReadNumber) → r ≡ number_by (count 1000000) (cost_by metric) s c → r.value ≤ 1000000
unfolding number_by with_number cost_by
cost_most s c metric r e =
    let few : (with_number (cursor_after (count 1000000) s c) (value_after (count 1000000) s c)).value ≤ 1000000 = count_most s c 1000000 (number_by (count 1000000) same s c) refl in
    subst (λ (x : ReadNumber). x.value ≤ 1000000) (sym e)
    (split (is_open (cursor_after (count 1000000) s c))
    (λ o. rw o (cond_case (λ (n : ℕ). n ≤ 1000000) (eqb metric 0) 1 (value_after (count 1000000) s c) (λ z. omega arith) (λ z. omega (arith, few, with_number_value (cursor_after (count 1000000) s c) (value_after (count 1000000) s c) _ refl o))))
    (λ o. rw o (omega arith)))

module _ (s : List ℕ) (c begun named : Cursor) (asked : ReadNumber) (prevail : Cursor) (setting : ReadNumber) (changed : Cursor) (cost : ReadNumber) (ended : Cursor)
    (sz : List ℕ) (metric a base : ℕ) (costs conditions₀ effects₀ conditions₁ conditions₂ effects₂ : List ℕ)
    (e₁ : begun ≡ field_after (word (ascii "begin_operator\n")) s c)
    (e₂ : named ≡ field_after name s begun)
    (e₃ : asked ≡ number_by (count 64) same s named)
    (e₄ : ListRead s asked.cursor asked.value sz conditions₀ base prevail conditions₁)
    (e₅ : setting ≡ number_by (count 64) same s prevail)
    (e₆ : EffectsRead s setting.cursor setting.value sz conditions₁ effects₀ base changed conditions₂ effects₂)
    (e₇ : cost ≡ number_by (count 1000000) (cost_by metric) s changed)
    (e₈ : ended ≡ field_after (word (ascii "end_operator\n")) s cost.cursor)
    (at : base ≡ 64 * a) where
  N : Cursor
  N = field_after name s (field_after (word (ascii "begin_operator\n")) s c)

  n : ℕ
  n = value_after (count 64) s N

  C₁ : Cursor
  C₁ = cursor_after (count 64) s N

  ps : List Pair
  ps = value_after (conditions sz [] n) s C₁

  C₂ : Cursor
  C₂ = cursor_after (conditions sz [] n) s C₁

  k : ℕ
  k = value_after (count 64) s C₂

  C₃ : Cursor
  C₃ = cursor_after (count 64) s C₂

  es : List Effect
  es = value_after (effects sz (variables_of ps) k) s C₃

  C₄ : Cursor
  C₄ = cursor_after (effects sz (variables_of ps) k) s C₃

  m : ℕ
  m = value_after (count 1000000) s C₄

  C₅ : Cursor
  C₅ = cursor_after (count 1000000) s C₄

  asked_is : asked ≡ with_number C₁ n
  unfolding number_by C₁ n N
  asked_is = e₃ ∙ ap (number_by (count 64) same s) (e₂ ∙ ap (field_after name s) e₁)

  prevail_is : prevail ≡ C₂
  unfolding C₂
  prevail_is = e₄.cursor ∙ after_with_number (conditions sz []) s C₁ n asked asked_is

  setting_is : setting ≡ with_number C₃ k
  unfolding number_by C₃ k
  setting_is = e₅ ∙ ap (number_by (count 64) same s) prevail_is

  C₁_open : is_open C₂ ≡ true → is_open C₁ ≡ true
  unfolding C₂
  C₁_open = open_before (conditions sz [] n) s C₁

  C₂_open : is_open C₃ ≡ true → is_open C₂ ≡ true
  unfolding C₃
  C₂_open = open_before (count 64) s C₂

  C₃_open : is_open C₄ ≡ true → is_open C₃ ≡ true
  unfolding C₄
  C₃_open = open_before (effects sz (variables_of ps) k) s C₃

  C₄_open : is_open C₅ ≡ true → is_open C₄ ≡ true
  unfolding C₅
  C₄_open = open_before (count 1000000) s C₄

  listed : is_open C₂ ≡ true → value_after (conditions sz [] asked.value) s asked.cursor ≡ ps
  unfolding ps
  listed o = ap (λ (r : ReadNumber). value_after (conditions sz [] r.value) s r.cursor) (with_number_is C₁ n asked asked_is (C₁_open o))

  given : is_open setting.cursor ≡ true → Given conditions₁ conditions₁ base (variables_of ps)
  unfolding with_number
  given o v =
      let open' : is_open C₂ ≡ true = C₂_open (sym (ap (λ (r : ReadNumber). is_open r.cursor) setting_is) ∙ o) in
      subst (λ (l : List Pair). Given conditions₁ conditions₁ base (variables_of l)) (listed open') (e₄.gives (ap is_open prevail_is ∙ open')) v

  stored : EffectsStored s setting.cursor setting.value sz (variables_of ps) conditions₁ effects₀ base changed conditions₂ effects₂
  stored = e₆.is (variables_of ps) given

  changed_is : changed ≡ C₄
  unfolding C₄
  changed_is = stored.cursor ∙ after_with_number (effects sz (variables_of ps)) s C₃ k setting setting_is

  effects_are : is_open C₄ ≡ true → value_after (effects sz (variables_of ps) setting.value) s setting.cursor ≡ es
  unfolding es
  effects_are o = ap (λ (r : ReadNumber). value_after (effects sz (variables_of ps) r.value) s r.cursor) (with_number_is C₃ k setting setting_is (C₃_open o))

  cost_is : cost ≡ with_number C₅ (cost_by metric m)
  unfolding number_by C₅ m
  cost_is = e₇ ∙ ap (number_by (count 1000000) (cost_by metric) s) changed_is

  ended_is : ended ≡ field_after (word (ascii "end_operator\n")) s C₅
  unfolding with_number
  ended_is = e₈ ∙ ap (λ (r : ReadNumber). field_after (word (ascii "end_operator\n")) s r.cursor) cost_is

  C₅_open : is_open ended ≡ true → is_open C₅ ≡ true
  C₅_open o = field_before (word (ascii "end_operator\n")) s C₅ (sym (ap is_open ended_is) ∙ o)

  after_is : ended ≡ cursor_after (operator sz) s c
  unfolding operator says cursor_after step_after fault_after C₁ C₂ C₃ C₄ C₅ N n ps k count
  after_is =
      ended_is
      ∙ sym (after_bind (count 64) _ s N ∙ after_bind (conditions sz [] n) _ s C₁ ∙ after_bind (count 64) _ s C₂ ∙ after_bind (effects sz (variables_of ps) k) _ s C₃)

  value_is : ((value_after (operator sz) s c).prevail ≡ ps) × ((value_after (operator sz) s c).effects ≡ es) × ((value_after (operator sz) s c).cost ≡ m)
  unfolding operator says cursor_after value_after step_after fault_after C₁ C₂ C₃ C₄ N n ps k es m count
  value_is =
      let whole = value_bind (count 64) _ s N ∙ value_bind (conditions sz [] n) _ s C₁ ∙ value_bind (count 64) _ s C₂ ∙ value_bind (effects sz (variables_of ps) k) _ s C₃ in
      (ap (λ (o : Operator). o.prevail) whole, ap (λ (o : Operator). o.effects) whole, ap (λ (o : Operator). o.cost) whole)

  pub operator_read : OperatorRead s c sz metric costs conditions₀ effects₀ a ended (set costs a cost.value) conditions₂ effects₂
  operator_read =
      record {
        cursor = after_is;
        cost = λ o. ap (set costs a) (with_number_value C₅ (cost_by metric m) cost cost_is (C₅_open o) ∙ ap (cost_by metric) (sym value_is.2));
        conditions_row = λ o.
            let open' : is_open C₄ ≡ true = C₄_open (C₅_open o) in
            let open'' : is_open C₂ ≡ true = C₂_open (C₃_open open') in
            stored.conditions_row (ap is_open changed_is ∙ open')
            ∙ ap₂ (λ (l : List ℕ) (x : List Effect). filled l base (old_pairs x)) (e₄.row (ap is_open prevail_is ∙ open'') ∙ ap (filled (cleared conditions₀ base 64) base) (listed open'')) (effects_are open')
            ∙ filled_both (cleared conditions₀ base 64) base ps (old_pairs es)
            ∙ ap₂ (λ (l : List Pair) (x : List Effect). filled (cleared conditions₀ base 64) base (l ++ old_pairs x)) (sym value_is.0) (sym value_is.1)
            ∙ ap (λ (b : ℕ). filled (cleared conditions₀ b 64) b (conditions_of (value_after (operator sz) s c))) at;
        effects_row = λ o.
            let open' : is_open C₄ ≡ true = C₄_open (C₅_open o) in
            stored.effects_row (ap is_open changed_is ∙ open')
            ∙ ap (λ (x : List Effect). filled (cleared effects₀ base 64) base (new_pairs x)) (effects_are open' ∙ sym value_is.1)
            ∙ ap (λ (b : ℕ). filled (cleared effects₀ b 64) b (effects_of (value_after (operator sz) s c))) at;
      }

-- nothing is stored behind a refusal
pub operator_up : (s : List ℕ) (c : Cursor) (sizes : List ℕ) (metric : ℕ) (costs conditions effects : List ℕ) (a : ℕ) (r : Cursor) (costs_now conditions_now effects_now : List ℕ) → r ≡ cursor_after (operator sizes) s c → is_open r ≡ false
    → OperatorRead s c sizes metric costs conditions effects a r costs_now conditions_now effects_now
operator_up s c sizes metric costs conditions effects a r costs_now conditions_now effects_now e d = record { cursor = e; cost = λ o. clash o d; conditions_row = λ o. clash o d; effects_row = λ o. clash o d }
