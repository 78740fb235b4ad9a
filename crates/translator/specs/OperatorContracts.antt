-- Names for the parts of what the functions that read operators ask and ensure.
use Rattle.std.specs.Prelude.{ℕ, ◌*◌, ◌≤◌, ◌<◌, ◌≡◌, Bool, true, cond, List, [], ◌∷◌, ◌++◌, map, eqb, ltb, length, take, set, Some, None}
use Rattle.std.specs.Prelude as Std
use Rattle.std.proofs.Math.Option.{Option, none, some}
use Rattle.files.specs.declared.arrays.Arrays.{Arrays}
use Rattle.files.specs.Bytes.{placed}
use Rattle.files.specs.Rows.{cleared, stored, filled, filled_rows}
use Rattle.files.specs.Task.{Pair}
use Rattle.translator.specs.Cursors.{Cursor}
use Rattle.translator.specs.Fields.{number, signed}
use Rattle.translator.specs.Format.{unsupported, out_of_range, unless, Format, gives, field, is_open, step_after, cursor_after, value_after}
use Rattle.translator.specs.Sas.{Operator, blank}
use Rattle.translator.specs.Stated.{old_pairs, new_pairs}
use Rattle.translator.specs.Text.{each, effect, operator}
use Rattle.translator.specs.Text as Text
use Rattle.translator.specs.ListContracts.{RowInside, Given}

-- a cursor behind the count of an effect's conditions
unfoldable pub plain_after : List ℕ → Cursor → Cursor
plain_after s c = step_after (number blank) (λ n. unless (eqb n 0) unsupported none) s c

-- an old value of a domain, or none
abbrev pub below_or_none : ℕ → Option ℕ → Bool
below_or_none size none = true
below_or_none size (some value) = ltb value size

abbrev pub old_below : ℕ → Format (Option ℕ)
old_below size = field (signed blank) (λ o. unless (below_or_none size o) out_of_range none) gives

-- a row behind an old value
abbrev pub stored_option : List ℕ → ℕ → ℕ → Std.Option ℕ → List ℕ
stored_option row base v None = row
stored_option row base v (Some value) = stored row base v value

pub record EffectInside (sizes conditions effects : List ℕ) (base : ℕ) : Type 0 where
  pub few : length sizes ≤ 64
  pub conditions_room : RowInside conditions base
  pub effects_room : RowInside effects base

-- an effect, and rows before and after it is stored, where nothing is refused
pub record EffectStored (s : List ℕ) (c : Cursor) (sizes given conditions effects : List ℕ) (base : ℕ) (r : Cursor) (conditions_now effects_now : List ℕ) : Type 0 where
  pub cursor : r ≡ cursor_after (effect sizes given) s c
  pub conditions_row : is_open r ≡ true → conditions_now ≡ filled conditions base (old_pairs (value_after (effect sizes given) s c ∷ []))
  pub effects_row : is_open r ≡ true → effects_now ≡ filled effects base (new_pairs (value_after (effect sizes given) s c ∷ []))
  pub gives : is_open r ≡ true → Given conditions_now effects_now base ((value_after (effect sizes given) s c).variable ∷ given)

pub record EffectRead (s : List ℕ) (c : Cursor) (sizes conditions effects : List ℕ) (base : ℕ) (r : Cursor) (conditions_now effects_now : List ℕ) : Type 0 where
  pub is : (given : List ℕ) → (is_open c ≡ true → Given conditions effects base given)
      → EffectStored s c sizes given conditions effects base r conditions_now effects_now

-- effects behind prevail conditions that gave variables: a row of effects that is cleared first
pub record EffectsStored (s : List ℕ) (c : Cursor) (count : ℕ) (sizes given conditions effects : List ℕ) (base : ℕ) (r : Cursor) (conditions_now effects_now : List ℕ) : Type 0 where
  pub cursor : r ≡ cursor_after (Text.effects sizes given count) s c
  pub conditions_row : is_open r ≡ true → conditions_now ≡ filled conditions base (old_pairs (value_after (Text.effects sizes given count) s c))
  pub effects_row : is_open r ≡ true → effects_now ≡ filled (cleared effects base 64) base (new_pairs (value_after (Text.effects sizes given count) s c))

pub record EffectsRead (s : List ℕ) (c : Cursor) (count : ℕ) (sizes conditions effects : List ℕ) (base : ℕ) (r : Cursor) (conditions_now effects_now : List ℕ) : Type 0 where
  pub is : (given : List ℕ) → (is_open c ≡ true → Given conditions conditions base given)
      → EffectsStored s c count sizes given conditions effects base r conditions_now effects_now

-- metric 0: every operator costs 1
unfoldable pub cost_by : ℕ → ℕ → ℕ
cost_by metric cost = cond (eqb metric 0) 1 cost

-- of a task's arrays only the actions' change
pub record RowsOnly (before now : Arrays) : Type 0 where
  pub variables : now.variables ≡ before.variables
  pub actions : now.actions ≡ before.actions
  pub sizes : now.sizes ≡ before.sizes
  pub starts : now.starts ≡ before.starts
  pub goal : now.goal ≡ before.goal

-- the conditions and effects of an operator, in the text's order
abbrev pub conditions_of : Operator → List Pair
conditions_of o = o.prevail ++ old_pairs o.effects

abbrev pub effects_of : Operator → List Pair
effects_of o = new_pairs o.effects

-- an operator, and arrays before and after it is stored as action a, where nothing is refused
pub record OperatorRead (s : List ℕ) (c : Cursor) (sizes : List ℕ) (metric : ℕ) (costs conditions effects : List ℕ) (a : ℕ) (r : Cursor) (costs_now conditions_now effects_now : List ℕ) : Type 0 where
  pub cursor : r ≡ cursor_after (operator sizes) s c
  pub cost : is_open r ≡ true → costs_now ≡ set costs a (cost_by metric (value_after (operator sizes) s c).cost)
  pub conditions_row : is_open r ≡ true → conditions_now ≡ filled (cleared conditions (64 * a) 64) (64 * a) (conditions_of (value_after (operator sizes) s c))
  pub effects_row : is_open r ≡ true → effects_now ≡ filled (cleared effects (64 * a) 64) (64 * a) (effects_of (value_after (operator sizes) s c))

-- operators, as the actions from 0 on
pub record OperatorsRead (s : List ℕ) (c : Cursor) (count : ℕ) (sizes : List ℕ) (metric : ℕ) (costs conditions effects : List ℕ) (r : Cursor) (costs_now conditions_now effects_now : List ℕ) : Type 0 where
  pub cursor : r ≡ cursor_after (each (operator sizes) count) s c
  pub costs_read : is_open r ≡ true → costs_now ≡ placed costs 0 (map (λ o. cost_by metric o.cost) (value_after (each (operator sizes) count) s c))
  pub conditions_read : is_open r ≡ true → conditions_now ≡ filled_rows conditions 0 (map conditions_of (value_after (each (operator sizes) count) s c))
  pub effects_read : is_open r ≡ true → effects_now ≡ filled_rows effects 0 (map effects_of (value_after (each (operator sizes) count) s c))
