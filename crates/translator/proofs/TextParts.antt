-- A text is its two parts; the first part, field by field: where each stands, and what it gives.
use Prim.Native.Nat.{ℕ}
use mathlib.Core.Path.{◌≡◌, refl, sym, ap, ap₂, ◌∙◌}
use mathlib.Core.Bool.{Bool}
use mathlib.Core.List.{List, [], ◌∷◌, map}
use lib.ListN.{drop}
use Rattle.files.specs.Task.{Pair}
use Rattle.digits.specs.Decimal.{ascii}
use Rattle.translator.specs.Cursors.{Cursor}
use Rattle.translator.specs.VariableContracts.{groups_after}
use Rattle.translator.specs.Fields.{word, flag, number, field_value}
use Rattle.translator.specs.Format.{field, cursor_at, field_after, fault_after, step_after, cursor_after, value_after}
use Rattle.translator.specs.Parts.{Front, front, axioms, behind}
use Rattle.translator.specs.Sas.{Declaration, Started, Sas, line_feed}
use Rattle.translator.specs.Stated.{sizes_of}
use Rattle.translator.specs.Text.{any, says, each, count, declaration, group, start, starts, conditions, operator, rule, text, sas_of}
use Rattle.translator.proofs.ReadingLaws.{after_bind, value_bind}
use Rattle.translator.proofs.RepeatReading.{first_value}

module _ (s : List ℕ) where
  unfoldable pub at_metric : Cursor
  at_metric = field_after (word (ascii "begin_version\n3\nend_version\nbegin_metric\n")) s (cursor_at 0)

  unfoldable pub metric_in : Bool
  metric_in = field_value flag (drop at_metric.at s)

  unfoldable pub behind_metric : Cursor
  behind_metric = field_after flag s at_metric

  unfoldable pub at_count : Cursor
  at_count = field_after (word (ascii "end_metric\n")) s behind_metric

  unfoldable pub count_in : ℕ
  count_in = value_after (count 64) s at_count

  unfoldable pub at_variables : Cursor
  at_variables = cursor_after (count 64) s at_count

  unfoldable pub declarations_in : List Declaration
  declarations_in = value_after (each declaration count_in) s at_variables

  unfoldable pub at_groups : Cursor
  at_groups = cursor_after (each declaration count_in) s at_variables

  unfoldable pub groups_in : List (List Pair)
  groups_in = value_after (field (number line_feed) any (λ n. each group n)) s at_groups

  unfoldable pub behind_groups : Cursor
  behind_groups = groups_after s at_groups

  unfoldable pub at_starts : Cursor
  at_starts = field_after (word (ascii "begin_state\n")) s behind_groups

  unfoldable pub variables_in : List Started
  variables_in = value_after (starts declarations_in) s at_starts

  unfoldable pub behind_starts : Cursor
  behind_starts = cursor_after (starts declarations_in) s at_starts

  pub front_after : cursor_after front s (cursor_at 0) ≡ behind_starts
  unfolding front says cursor_after step_after fault_after groups_after at_metric behind_metric at_count count_in at_variables declarations_in at_groups behind_groups at_starts behind_starts
  front_after = after_bind (count 64) _ s at_count ∙ after_bind (each declaration count_in) _ s at_variables ∙ after_bind (each group _) _ s _ ∙ after_bind (starts declarations_in) _ s at_starts

  pub front_value : value_after front s (cursor_at 0) ≡ record { metric = metric_in; declarations = declarations_in; groups = groups_in; variables = variables_in }
  unfolding front says cursor_after value_after step_after fault_after groups_after at_metric metric_in behind_metric at_count count_in at_variables declarations_in at_groups groups_in behind_groups at_starts variables_in
  front_value = value_bind (count 64) _ s at_count ∙ value_bind (each declaration count_in) _ s at_variables ∙ value_bind (each group _) _ s _ ∙ value_bind (starts declarations_in) _ s at_starts

  pub text_after : cursor_after text s (cursor_at 0) ≡ cursor_after (behind (sizes_of (value_after front s (cursor_at 0)).declarations) (value_after front s (cursor_at 0))) s (cursor_after front s (cursor_at 0))
  unfolding text behind axioms says cursor_after value_after step_after fault_after groups_after at_metric metric_in behind_metric at_count count_in at_variables declarations_in at_groups groups_in behind_groups at_starts variables_in behind_starts
  text_after =
      after_bind (count 64) _ s at_count ∙ after_bind (each declaration count_in) _ s at_variables ∙ after_bind (each group _) _ s _ ∙ after_bind (starts declarations_in) _ s at_starts
      ∙ sym (ap₂ (λ (x : Front) (y : Cursor). cursor_after (behind (sizes_of x.declarations) x) s y) front_value front_after)

  pub text_value : sas_of s ≡ value_after (behind (sizes_of (value_after front s (cursor_at 0)).declarations) (value_after front s (cursor_at 0))) s (cursor_after front s (cursor_at 0))
  unfolding sas_of text behind axioms says cursor_after value_after step_after fault_after groups_after at_metric metric_in behind_metric at_count count_in at_variables declarations_in at_groups groups_in behind_groups at_starts variables_in behind_starts
  text_value =
      value_bind (count 64) _ s at_count ∙ value_bind (each declaration count_in) _ s at_variables ∙ value_bind (each group _) _ s _ ∙ value_bind (starts declarations_in) _ s at_starts
      ∙ sym (ap₂ (λ (x : Front) (y : Cursor). value_after (behind (sizes_of x.declarations) x) s y) front_value front_after)

-- the variables are the declared ones
starts_declared : (ds : List Declaration) (s : List ℕ) (c : Cursor) → map (λ v. v.declared) (value_after (starts ds) s c) ≡ ds
unfolding starts start value_after
starts_declared [] s c = refl
starts_declared (d ∷ ds) s c =
    ap (map (λ v. v.declared)) (first_value (start d) (λ v. starts ds) s c)
    ∙ ap (λ (l : List Declaration). d ∷ l) (starts_declared ds s (cursor_after (start d) s c))

pub front_declared : (s : List ℕ) → map (λ v. v.declared) (value_after front s (cursor_at 0)).variables ≡ (value_after front s (cursor_at 0)).declarations
unfolding variables_in
front_declared s =
    ap (λ (x : Front). map (λ v. v.declared) x.variables) (front_value s)
    ∙ starts_declared (declarations_in s) s (at_starts s)
    ∙ sym (ap (λ (x : Front). x.declarations) (front_value s))

-- the first part as the second gives it
pub behind_front : (sizes : List ℕ) (x : Front) (s : List ℕ) (c : Cursor) → ((value_after (behind sizes x) s c).metric ≡ x.metric) × ((value_after (behind sizes x) s c).variables ≡ x.variables)
unfolding behind axioms says cursor_after value_after step_after fault_after
behind_front sizes x s c =
    let whole = value_bind (count 64) _ s _ ∙ value_bind (conditions sizes [] _) _ s _ ∙ value_bind (count 512) _ s _ ∙ value_bind (each (operator sizes) _) _ s _ ∙ value_bind (each rule _) _ s _ in
    (ap (λ (y : Sas). y.metric) whole, ap (λ (y : Sas). y.variables) whole)
