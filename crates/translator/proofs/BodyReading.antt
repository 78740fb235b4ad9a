-- The second part of a text, from the code's own steps: the goal, the operators and the end.
use Prim.Native.Nat.{ℕ}
use mathlib.Core.Path.{◌≡◌, refl, sym, ap, ◌∙◌}
use mathlib.Core.Bool.{true}
use mathlib.Core.List.{List, [], map}
use mathlib.Core.Option.{none}
use native.Mathlib.Omega.{arith}
use lib.Dec.{eqb, leb}
use lib.ListN.{length, take, drop}
use borrow.Author.Tests.{eqb-true}
use Rattle.files.proofs.Guards.{goes_on_lem, stops, both_done, is_done_lem, refused_number}
use Rattle.files.proofs.Logic.{split}
use Rattle.files.specs.Outcome.{Outcome, done, refused, guard}
use Rattle.files.specs.Bytes.{placed}
use Rattle.files.specs.Rows.{cleared, filled, filled_rows}
use Rattle.files.specs.Task.{Pair}
use Rattle.digits.specs.Decimal.{ascii}
use Rattle.translator.specs.Cursors.{Cursor}
use Rattle.translator.specs.Cursors.{ReadNumber}
use Rattle.files.specs.declared.arrays.Arrays.{Arrays}
use Rattle.files.specs.declared.refusals.Refusal.{Refusal}
use Rattle.translator.specs.Clauses.{capped, with_number, number_after, judged, number_by, same}
use Rattle.translator.specs.ListContracts.{ListRead}
use Rattle.translator.specs.OperatorContracts.{cost_by, conditions_of, effects_of, OperatorsRead}
use Rattle.translator.specs.Fields.{word, number, field_value}
use Rattle.translator.specs.Format.{unsupported, unless, Format, gives, field, bind, repeat, cursor_refused, is_open, field_after, fault_after, step_after, cursor_after, value_after}
use Rattle.translator.specs.Parts.{Begun, Front, axioms, behind, closed_at, ended_at, BodyRead}
use Rattle.translator.specs.Sas.{Operator, Rule, Sas, line_feed}
use Rattle.translator.specs.Text.{says, each, count, conditions, operator, rule}
use Rattle.translator.proofs.Calls.{numbered_shut, judged_shut}
use Rattle.translator.proofs.CountReading.{count_most}
use Rattle.translator.proofs.ReadingLaws.{after_refused, after_bind, value_bind, open_before}
use Rattle.translator.proofs.RepeatReading.{each_length}
use Rattle.translator.proofs.StepReading.{eqb_capped, step_fine, unless_none, number_is, with_number_value, read_value, read_tested, with_number_is}
use Rattle.translator.proofs.InsideReading.{field_before, after_with_number}

-- the end of a text
module _ (s : List ℕ) (c : Cursor) (n : ReadNumber) (last : Cursor) (is : n ≡ number_after line_feed s c) (e : last ≡ judged n.cursor (eqb n.value 0) 32 c.at) where
  last_is : last ≡ step_after (number line_feed) (λ r. unless (eqb r 0) unsupported none) s c
  last_is =
      let v : ℕ = field_value (number line_feed) (drop c.at s) in
      read_tested (number line_feed) s c n (capped v) (number_is line_feed s c n is) unsupported (λ x. eqb x 0) (eqb n.value 0) last
      (λ o. ap (λ (x : ℕ). eqb x 0) (read_value (number line_feed) s c n (capped v) (number_is line_feed s c n is) o) ∙ eqb_capped v 0 (omega arith)) e

  closed_by : {r : Outcome} → r ≡ closed_at s last → r ≡ ended_at s c
  unfolding ended_at
  closed_by q = q ∙ ap (closed_at s) last_is

  pub ended_refused : (last.outcome.number ≡ 0 → ⊥) → last.outcome ≡ ended_at s c
  unfolding closed_at
  ended_refused d = closed_by (stops last.outcome _ last.outcome refl d)

  pub ended_open : (r : Outcome) → last.outcome.number ≡ 0 → r ≡ guard (leb (length s) last.at) 31 last.at done → r ≡ ended_at s c
  unfolding closed_at
  ended_open r z q = closed_by (goes_on_lem last.outcome _ r last.outcome refl z q)

pub ended_shut : (s : List ℕ) (e : Refusal) → refused e ≡ ended_at s (cursor_refused (refused e))
ended_shut s e = ended_refused s (cursor_refused (refused e)) _ (cursor_refused (refused e)) (numbered_shut s e line_feed) (judged_shut e _ _ _) (refused_number e)

-- no axioms: the count alone
module _ (f : Front) (goal : List Pair) (operators : List Operator) (s : List ℕ) (c : Cursor) where
  E : Cursor
  E = step_after (number line_feed) (λ r. unless (eqb r 0) unsupported none) s c

  closing : List Rule → Format Sas
  closing rules = gives (record { metric = f.metric; variables = f.variables; groups = f.groups; goal = goal; operators = operators; rules = rules })

  none_counted : is_open E ≡ true → field_value (number line_feed) (drop c.at s) ≡ 0
  unfolding E
  none_counted o =
      let v : ℕ = field_value (number line_feed) (drop c.at s) in
      eqb-true v 0 (unless_none (eqb v 0) unsupported none (step_fine (number line_feed) (λ r. unless (eqb r 0) unsupported none) s c o)).0

  axioms_after : cursor_after (axioms f goal operators) s c ≡ E
  unfolding axioms cursor_after E each repeat bind closing
  axioms_after =
      split (is_open E)
      (λ o. ap (λ (n : ℕ). cursor_after (bind (each rule n) closing) s E) (none_counted o))
      (λ o. after_refused (bind (each rule (field_value (number line_feed) (drop c.at s))) closing) s E o)

  axioms_goal : (value_after (axioms f goal operators) s c).goal ≡ goal
  unfolding axioms value_after
  axioms_goal = ap (λ (x : Sas). x.goal) (value_bind (each rule _) _ s _)

  axioms_operators : (value_after (axioms f goal operators) s c).operators ≡ operators
  unfolding axioms value_after
  axioms_operators = ap (λ (x : Sas). x.operators) (value_bind (each rule _) _ s _)

module _ (s : List ℕ) (h : Begun) (stated : Cursor) (asked : ReadNumber) (aimed closed : Cursor) (cnt : ReadNumber) (last : Cursor) (outcome : Outcome) (before now : Arrays)
    (e₁ : stated ≡ field_after (word (ascii "end_state\nbegin_goal\n")) s h.cursor)
    (e₂ : asked ≡ number_by (count 64) same s stated)
    (e₃ : ListRead s asked.cursor asked.value (take h.variables before.sizes) before.goal 0 aimed now.goal)
    (e₄ : closed ≡ field_after (word (ascii "end_goal\n")) s aimed)
    (e₅ : cnt ≡ number_by (count 512) same s closed)
    (e₆ : OperatorsRead s cnt.cursor cnt.value (take h.variables before.sizes) h.metric before.costs before.conditions before.effects last now.costs now.conditions now.effects)
    (e₇ : outcome ≡ ended_at s last) where
  sz : List ℕ
  sz = take h.variables before.sizes

  T : Cursor
  T = field_after (word (ascii "end_state\nbegin_goal\n")) s h.cursor

  k : ℕ
  k = value_after (count 64) s T

  C₁ : Cursor
  C₁ = cursor_after (count 64) s T

  ps : List Pair
  ps = value_after (conditions sz [] k) s C₁

  C₂ : Cursor
  C₂ = cursor_after (conditions sz [] k) s C₁

  D : Cursor
  D = field_after (word (ascii "end_goal\n")) s C₂

  m : ℕ
  m = value_after (count 512) s D

  C₃ : Cursor
  C₃ = cursor_after (count 512) s D

  ops : List Operator
  ops = value_after (each (operator sz) m) s C₃

  C₄ : Cursor
  C₄ = cursor_after (each (operator sz) m) s C₃

  asked_is : asked ≡ with_number C₁ k
  unfolding number_by C₁ k T
  asked_is = e₂ ∙ ap (number_by (count 64) same s) e₁

  aimed_is : aimed ≡ C₂
  unfolding C₂ sz
  aimed_is = e₃.cursor ∙ after_with_number (conditions sz []) s C₁ k asked asked_is

  cnt_is : cnt ≡ with_number C₃ m
  unfolding number_by C₃ m D
  cnt_is = e₅ ∙ ap (number_by (count 512) same s) (e₄ ∙ ap (field_after (word (ascii "end_goal\n")) s) aimed_is)

  last_at : last ≡ C₄
  unfolding C₄ sz
  last_at = e₆.cursor ∙ after_with_number (each (operator sz)) s C₃ m cnt cnt_is

  module _ (f : Front) where
    after_is : cursor_after (behind sz f) s h.cursor ≡ cursor_after (axioms f ps ops) s C₄
    unfolding behind says cursor_after step_after fault_after T C₁ C₂ C₃ C₄ D k ps m ops
    after_is = after_bind (count 64) _ s T ∙ after_bind (conditions sz [] k) _ s C₁ ∙ after_bind (count 512) _ s D ∙ after_bind (each (operator sz) m) _ s C₃

    value_is : value_after (behind sz f) s h.cursor ≡ value_after (axioms f ps ops) s C₄
    unfolding behind says cursor_after value_after step_after fault_after T C₁ C₂ C₃ C₄ D k ps m ops
    value_is = value_bind (count 64) _ s T ∙ value_bind (conditions sz [] k) _ s C₁ ∙ value_bind (count 512) _ s D ∙ value_bind (each (operator sz) m) _ s C₃

    end_is : outcome ≡ closed_at s (cursor_after (behind sz f) s h.cursor)
    unfolding ended_at E
    end_is = e₇ ∙ ap (ended_at s) last_at ∙ ap (closed_at s) (sym (axioms_after f ps ops s C₄) ∙ sym after_is)

    goal_is : ps ≡ (value_after (behind sz f) s h.cursor).goal
    goal_is = sym (axioms_goal f ps ops s C₄) ∙ ap (λ (x : Sas). x.goal) (sym value_is)

    operators_are : ops ≡ (value_after (behind sz f) s h.cursor).operators
    operators_are = sym (axioms_operators f ps ops s C₄) ∙ ap (λ (x : Sas). x.operators) (sym value_is)

  C₄_open : outcome.number ≡ 0 → is_open C₄ ≡ true
  unfolding ended_at closed_at is_open cursor_after
  C₄_open z =
      let open' = (both_done _ _ (sym (ap (λ (o : Outcome). o.number) (e₇ ∙ ap (ended_at s) last_at)) ∙ z)).0 in
      open_before (field (number line_feed) (λ r. unless (eqb r 0) unsupported none) gives) s C₄ (is_done_lem _ open')

  C₃_open : is_open C₄ ≡ true → is_open C₃ ≡ true
  unfolding C₄
  C₃_open = open_before (each (operator sz) m) s C₃

  C₂_open : is_open C₃ ≡ true → is_open C₂ ≡ true
  unfolding C₃ D
  C₂_open o = field_before (word (ascii "end_goal\n")) s C₂ (open_before (count 512) s D o)

  C₁_open : is_open C₂ ≡ true → is_open C₁ ≡ true
  unfolding C₂
  C₁_open = open_before (conditions sz [] k) s C₁

  aims : is_open C₂ ≡ true → value_after (conditions sz [] asked.value) s asked.cursor ≡ ps
  unfolding ps
  aims o = ap (λ (r : ReadNumber). value_after (conditions sz [] r.value) s r.cursor) (with_number_is C₁ k asked asked_is (C₁_open o))

  listed : is_open C₄ ≡ true → value_after (each (operator sz) cnt.value) s cnt.cursor ≡ ops
  unfolding ops
  listed o = ap (λ (r : ReadNumber). value_after (each (operator sz) r.value) s r.cursor) (with_number_is C₃ m cnt cnt_is (C₃_open o))

  many : length ops ≡ m
  unfolding ops
  many = each_length (operator sz) s m C₃

  -- a refusal
  pub body_up : (e : Refusal) → outcome ≡ refused e → now.variables ≡ before.variables → now.sizes ≡ before.sizes → now.starts ≡ before.starts → BodyRead s h before (refused e) now
  unfolding sz
  body_up e is variables sizes starts =
      record {
        variables = variables;
        sizes = sizes;
        starts = starts;
        few_actions = λ z. absurd (refused_number e z);
        outcome = λ f. sym is ∙ end_is f;
        stored = λ f z. absurd (refused_number e z);
      }

  pub body_read : now.variables ≡ before.variables → now.sizes ≡ before.sizes → now.starts ≡ before.starts → now.actions ≡ cnt.value → BodyRead s h before outcome now
  unfolding sz
  body_read variables sizes starts actions =
      record {
        variables = variables;
        sizes = sizes;
        starts = starts;
        few_actions = λ z. omega (arith, actions, count_most s closed 512 cnt e₅);
        outcome = end_is;
        stored = λ f z.
            let all = C₄_open z in
            let read : is_open last ≡ true = ap is_open last_at ∙ all in
            let ops_are : value_after (each (operator sz) cnt.value) s cnt.cursor ≡ (value_after (behind sz f) s h.cursor).operators = listed all ∙ operators_are f in
            record {
              counted = actions ∙ with_number_value C₃ m cnt cnt_is (C₃_open all) ∙ sym many ∙ ap length (operators_are f);
              goal_read = e₃.row (ap is_open aimed_is ∙ C₂_open (C₃_open all)) ∙ ap (filled (cleared before.goal 0 64) 0) (aims (C₂_open (C₃_open all)) ∙ goal_is f);
              costs_read = e₆.costs_read read ∙ ap (λ (l : List Operator). placed before.costs 0 (map (λ o. cost_by h.metric o.cost) l)) ops_are;
              conditions_read = e₆.conditions_read read ∙ ap (λ (l : List Operator). filled_rows before.conditions 0 (map conditions_of l)) ops_are;
              effects_read = e₆.effects_read read ∙ ap (λ (l : List Operator). filled_rows before.effects 0 (map effects_of l)) ops_are;
            };
      }
