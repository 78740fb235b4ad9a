-- The text in two parts, as they are read: up to the start values, and from there on; and what arrays then hold.
use Rattle.std.specs.Prelude.{ℕ, ◌≤◌, ◌≡◌, Bool, true, List, [], map, eqb, leb, length, take, drop, Result, Ok, Err}
use Rattle.std.proofs.Math.Option.{none}
use Rattle.files.specs.Outcome.{Outcome, done, guard, and_then, refused}
use Rattle.files.specs.Below.{bit}
use Rattle.files.specs.Bytes.{placed}
use Rattle.files.specs.declared.arrays.Arrays.{Arrays}
use Rattle.files.specs.declared.refusals.Refusal.{Refusal}
use Rattle.files.specs.Dense.{held}
use Rattle.files.specs.Rows.{cleared, filled, filled_rows}
use Rattle.files.specs.Task.{Pair}
use Rattle.translator.specs.Cursors.{Cursor}
use Rattle.translator.specs.Cursors.{ReadNumber}
use Rattle.translator.specs.Clauses.{with_number}
use Rattle.translator.specs.VariableContracts.{stored_sizes, stored_starts}
use Rattle.translator.specs.OperatorContracts.{cost_by, conditions_of, effects_of}
use Rattle.translator.specs.Fields.{flag, number, field_value}
use Rattle.translator.specs.Format.{unsupported, unless, Format, gives, field, bind, cursor_at, cursor_refused, is_open, field_after, step_after, cursor_after, value_after}
use Rattle.translator.specs.Sas.{Declaration, Started, Operator, Sas, line_feed}
use Rattle.translator.specs.Stated.{sizes_of}
use Rattle.translator.specs.Text.{any, says, each, count, declaration, group, starts, conditions, operator, rule, check_text, text_task}

pub record Front : Type 0 where
  pub metric : Bool
  pub declarations : List Declaration
  pub groups : List (List Pair)
  pub variables : List Started

unfoldable pub front : Format Front
front =
    says "begin_version\n3\nend_version\nbegin_metric\n"
    (field flag any (λ metric.
    says "end_metric\n"
    (bind (count 64) (λ n.
    bind (each declaration n) (λ declarations.
    field (number line_feed) any (λ g.
    bind (each group g) (λ groups.
    says "begin_state\n"
    (bind (starts declarations) (λ variables.
    gives (record { metric = metric; declarations = declarations; groups = groups; variables = variables }))))))))))

-- the count of axioms, and the axioms
unfoldable pub axioms : Front → List Pair → List Operator → Format Sas
axioms f goal operators =
    field (number line_feed) (λ r. unless (eqb r 0) unsupported none) (λ r.
    bind (each rule r) (λ rules.
    gives
    (record {
      metric = f.metric;
      variables = f.variables;
      groups = f.groups;
      goal = goal;
      operators = operators;
      rules = rules;
    })))

-- from the start values on, by the sizes of the variables
unfoldable pub behind : List ℕ → Front → Format Sas
behind sizes f =
    says "end_state\nbegin_goal\n"
    (bind (count 64) (λ k.
    bind (conditions sizes [] k) (λ goal.
    says "end_goal\n"
    (bind (count 512) (λ m.
    bind (each (operator sizes) m) (λ operators.
    axioms f goal operators))))))

-- a metric as a number
unfoldable pub metric_after : List ℕ → Cursor → ReadNumber
metric_after s c = with_number (field_after flag s c) (bit (field_value flag (drop c.at s)))

-- nothing behind a text that is read
unfoldable pub closed_at : List ℕ → Cursor → Outcome
closed_at s end = and_then end.outcome (guard (leb (length s) end.at) 31 end.at done)

unfoldable pub ended_at : List ℕ → Cursor → Outcome
ended_at s c = closed_at s (step_after (number line_feed) (λ r. unless (eqb r 0) unsupported none) s c)

-- what is read up to the start values
pub record Begun : Type 0 where
  pub cursor : Cursor
  pub metric : ℕ
  pub variables : ℕ

abbrev pub begun : ℕ → ℕ → ℕ → Begun
begun at metric variables = record { cursor = cursor_at at; metric = metric; variables = variables }

-- the numbers are 0 beside a refusal
abbrev pub begun_of : Result Bool Refusal → ℕ → ℕ → Begun
begun_of (Ok metric) at variables = begun at (bit metric) variables
begun_of (Err r) at variables = record { cursor = cursor_refused (refused r); metric = 0; variables = 0 }

-- the first part: a cursor behind it; where nothing is refused, its numbers, and arrays with sizes and start values
pub record FrontRead (s sizes starts : List ℕ) (r : Begun) (sizes_now starts_now : List ℕ) : Type 0 where
  pub cursor : r.cursor ≡ cursor_after front s (cursor_at 0)
  pub few : r.variables ≤ 64
  pub metric : is_open r.cursor ≡ true → r.metric ≡ bit (value_after front s (cursor_at 0)).metric
  pub counted : is_open r.cursor ≡ true → r.variables ≡ length (value_after front s (cursor_at 0)).declarations
  pub sizes_held : is_open r.cursor ≡ true → sizes_of (value_after front s (cursor_at 0)).declarations ≡ take r.variables sizes_now
  pub sizes_read : is_open r.cursor ≡ true → sizes_now ≡ placed sizes 0 (stored_sizes (value_after front s (cursor_at 0)).declarations)
  pub starts_read : is_open r.cursor ≡ true → starts_now ≡ placed starts 0 (stored_starts (value_after front s (cursor_at 0)).variables)

-- arrays with room for every task
pub record Roomy (d : Arrays) : Type 0 where
  pub sizes : 64 ≤ length d.sizes
  pub starts : 64 ≤ length d.starts
  pub goal : 64 ≤ length d.goal
  pub costs : 512 ≤ length d.costs
  pub conditions : 32768 ≤ length d.conditions
  pub effects : 32768 ≤ length d.effects

-- the second part, behind any first part that has the sizes: the outcome; where nothing is refused, arrays with the goal and the operators
pub record BodyStored (s : List ℕ) (h : Begun) (x : Sas) (goal costs conditions effects : List ℕ) (actions : ℕ) (goal_now costs_now conditions_now effects_now : List ℕ) : Type 0 where
  pub counted : actions ≡ length x.operators
  pub goal_read : goal_now ≡ filled (cleared goal 0 64) 0 x.goal
  pub costs_read : costs_now ≡ placed costs 0 (map (λ o. cost_by h.metric o.cost) x.operators)
  pub conditions_read : conditions_now ≡ filled_rows conditions 0 (map conditions_of x.operators)
  pub effects_read : effects_now ≡ filled_rows effects 0 (map effects_of x.operators)

pub record BodyRead (s : List ℕ) (h : Begun) (before : Arrays) (o : Outcome) (now : Arrays) : Type 0 where
  pub variables : now.variables ≡ before.variables
  pub sizes : now.sizes ≡ before.sizes
  pub starts : now.starts ≡ before.starts
  pub few_actions : o.number ≡ 0 → now.actions ≤ 512
  pub outcome : (f : Front) → o ≡ closed_at s (cursor_after (behind (take h.variables before.sizes) f) s h.cursor)
  pub stored : (f : Front) → o.number ≡ 0
      → BodyStored s h (value_after (behind (take h.variables before.sizes) f) s h.cursor) before.goal before.costs before.conditions before.effects now.actions now.goal now.costs now.conditions now.effects

-- a text's outcome, and arrays that hold its task where nothing is refused
pub record TextRead (s : List ℕ) (o : Outcome) (now : Arrays) : Type 0 where
  pub outcome : o ≡ check_text s
  pub few_variables : o.number ≡ 0 → now.variables ≤ 64
  pub few_actions : o.number ≡ 0 → now.actions ≤ 512
  pub task : o.number ≡ 0 → held now ≡ text_task s
