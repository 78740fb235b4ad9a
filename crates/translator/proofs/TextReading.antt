-- The whole text, from its two parts: the outcome is the check's, and the arrays hold the task that the text states.
use Prim.Native.Nat.{ℕ, ◌%◌, ◌≤◌}
use mathlib.Core.Path.{◌≡◌, refl, sym, ap, ap₂, ◌∙◌}
use mathlib.Core.Bool.{Bool, true, false, cond}
use mathlib.Core.List.{List, [], ◌∷◌, map}
use native.Mathlib.Omega.{arith}
use lib.Dec.{leb}
use lib.ListN.{length, take, length-map}
use borrow.Author.Tests.{le-leb, leb-true}
use Rattle.files.proofs.Guards.{guard_passes, both_done, is_done_lem, passed, stops, refused_number}
use Rattle.files.proofs.Logic.{split}
use Rattle.files.specs.Outcome.{Outcome, done, refused, guard}
use Rattle.files.specs.Below.{bit}
use Rattle.files.specs.Bytes.{placed}
use Rattle.files.specs.Dense.{held, arrays}
use Rattle.files.specs.Records.{size_fits}
use Rattle.files.specs.Rows.{cleared, filled, filled_rows}
use Rattle.files.specs.declared.arrays.Arrays.{Arrays}
use Rattle.files.specs.declared.refusals.Refusal.{Refusal}
use Rattle.translator.specs.VariableContracts.{size_of, stored_sizes, stored_starts}
use Rattle.translator.specs.OperatorContracts.{cost_by, conditions_of, effects_of}
use Rattle.translator.specs.Format.{cursor_at, cursor_refused, is_open, cursor_after, value_after}
use Rattle.translator.specs.Parts.{Begun, Front, front, behind, closed_at, FrontRead, Roomy, BodyRead, TextRead}
use Rattle.translator.specs.Sas.{Started, Sas}
use Rattle.translator.specs.Stated.{sizes_of}
use Rattle.translator.specs.Text.{text, form_at, check_text, sas_of, text_task}
use Rattle.translator.proofs.Calls.{after_shut}
use Rattle.translator.proofs.CallLaws.{check_done, TextHeld, held_text}
use Rattle.translator.proofs.ReadingLaws.{after_refused, open_before}
use Rattle.translator.proofs.StatedHeld.{stated_held}
use Rattle.translator.proofs.TextParts.{text_after, text_value, front_declared, behind_front}

-- a refusal
pub text_up : (s : List ℕ) (e : Refusal) (now : Arrays) → refused e ≡ check_text s → TextRead s (refused e) now
text_up s e now is =
    record { outcome = is; few_variables = λ z. absurd (refused_number e z); few_actions = λ z. absurd (refused_number e z); task = λ z. absurd (refused_number e z) }

pub text_long : (s : List ℕ) (e : Refusal) → refused e ≡ guard (leb (length s) 65536) 4 0 done → refused e ≡ check_text s
unfolding check_text size_fits guard
text_long s e h = go (leb (length s) 65536) h
  where
    go : (b : Bool) → refused e ≡ guard b 4 0 done → refused e ≡ guard b 4 0 (form_at s)
    go true h = absurd (refused_number e (ap (λ (o : Outcome). o.number) h))
    go false h = h

pub text_short : (s : List ℕ) → done ≡ guard (leb (length s) 65536) 4 0 done → length s ≤ 65536
text_short s h = leb-true (length s) 65536 (passed (leb (length s) 65536) 4 0 done (omega arith) (sym (ap (λ (o : Outcome). o.number) h))).0

-- nothing is read behind a first part that is refused
pub body_shut : (s : List ℕ) (e : Refusal) (metric variables : ℕ) (now : Arrays) → BodyRead s (record { cursor = cursor_refused (refused e); metric = metric; variables = variables }) now (refused e) now
unfolding closed_at
body_shut s e metric variables now =
    record {
      variables = refl;
      sizes = refl;
      starts = refl;
      few_actions = λ z. absurd (refused_number e z);
      outcome = λ f. stops (refused e) _ (refused e) refl (refused_number e) ∙ ap (closed_at s) (after_shut s e (behind (take variables now.sizes) f));
      stored = λ f z. absurd (refused_number e z);
    }

cost_same : (metric : Bool) (cost : ℕ) → cost_by (bit metric) cost ≡ cond metric cost 1
unfolding cost_by
cost_same true cost = refl
cost_same false cost = refl

map_same : {A : Type 0} (f g : A → ℕ) (l : List A) → ((x : A) → f x ≡ g x) → map f l ≡ map g l
map_same f g [] h = refl
map_same f g (x ∷ l) h = ap₂ ◌∷◌ (h x) (map_same f g l h)

map_declared : (l : List Started) → map (λ d. size_of d % 256) (map (λ v. v.declared) l) ≡ map (λ v. length v.declared.values % 256) l
map_declared [] = refl
map_declared (v ∷ l) = ap (λ (r : List ℕ). length v.declared.values % 256 ∷ r) (map_declared l)

module _ (s : List ℕ) (h : Begun) (o : Outcome) (sizes₀ starts₀ : List ℕ) (between now : Arrays)
    (few : length s ≤ 65536)
    (first : FrontRead s sizes₀ starts₀ h between.sizes between.starts)
    (second : BodyRead s h between o now) where
  x : Front
  x = value_after front s (cursor_at 0)

  sz : List ℕ
  sz = take h.variables between.sizes

  parts_after : cursor_after (behind sz x) s h.cursor ≡ cursor_after text s (cursor_at 0)
  unfolding x sz
  parts_after =
      split (is_open h.cursor)
      (λ o. ap (λ (l : List ℕ). cursor_after (behind l x) s h.cursor) (sym (first.sizes_held o)))
      (λ o. after_refused (behind sz x) s h.cursor o ∙ sym (after_refused (behind (sizes_of x.declarations) x) s h.cursor o))
      ∙ ap (cursor_after (behind (sizes_of x.declarations) x) s) first.cursor
      ∙ sym (text_after s)

  pub text_outcome : o ≡ check_text s
  unfolding check_text size_fits form_at closed_at x sz
  text_outcome = guard_passes (leb (length s) 65536) 4 0 (form_at s) o (le-leb (length s) 65536 few) (second.outcome x ∙ ap (closed_at s) parts_after)

  module _ (sizes_room : 64 ≤ length sizes₀) (starts_room : 64 ≤ length starts₀) (room : Roomy between) (counted : h.variables ≡ between.variables) (z : o.number ≡ 0) where
    front_open : is_open h.cursor ≡ true
    unfolding closed_at is_open sz x
    front_open =
        open_before (behind sz x) s h.cursor
        (is_done_lem _ (both_done _ _ (sym (ap (λ (o : Outcome). o.number) (second.outcome x)) ∙ z)).0)

    sas_is : value_after (behind sz x) s h.cursor ≡ sas_of s
    unfolding x sz
    sas_is =
        ap (λ (l : List ℕ). value_after (behind l x) s h.cursor) (sym (first.sizes_held front_open))
        ∙ ap (value_after (behind (sizes_of x.declarations) x) s) first.cursor
        ∙ sym (text_value s)

    metric_is : h.metric ≡ bit (sas_of s).metric
    unfolding x
    metric_is = first.metric front_open ∙ ap bit (sym (behind_front sz x s h.cursor).0) ∙ ap (λ (y : Sas). bit y.metric) sas_is

    variables_are : x.variables ≡ (sas_of s).variables
    variables_are = sym (behind_front sz x s h.cursor).1 ∙ ap (λ (y : Sas). y.variables) sas_is

    declared_are : x.declarations ≡ map (λ v. v.declared) (sas_of s).variables
    unfolding x
    declared_are = sym (front_declared s) ∙ ap (map (λ v. v.declared)) variables_are

    task_is : held now ≡ text_task s
    unfolding x sz
    task_is =
        let kept : TextHeld s = held_text s (check_done s (sym (ap (λ (o : Outcome). o.number) text_outcome) ∙ z)) in
        let y : Sas = sas_of s in
        let body = second.stored x z in
        let count : now.variables ≡ length y.variables = second.variables ∙ sym counted ∙ first.counted front_open ∙ ap length declared_are ∙ length-map y.variables (λ v. v.declared) in
        let actions : now.actions ≡ length y.operators = body.counted ∙ ap (λ (q : Sas). length q.operators) sas_is in
        let size : now.sizes ≡ placed sizes₀ 0 (map (λ v. length v.declared.values % 256) y.variables) =
        second.sizes ∙ first.sizes_read front_open ∙ ap (placed sizes₀ 0) (ap stored_sizes declared_are ∙ map_declared y.variables) in
        let start : now.starts ≡ placed starts₀ 0 (map (λ v. v.start % 256) y.variables) = second.starts ∙ first.starts_read front_open ∙ ap (λ (l : List Started). placed starts₀ 0 (stored_starts l)) variables_are in
        let aim : now.goal ≡ filled (cleared between.goal 0 64) 0 y.goal = body.goal_read ∙ ap (λ (q : Sas). filled (cleared between.goal 0 64) 0 q.goal) sas_is in
        let cost : now.costs ≡ placed between.costs 0 (map (λ o. cond y.metric o.cost 1) y.operators) =
        body.costs_read ∙ ap (λ (q : Sas). placed between.costs 0 (map (λ o. cost_by h.metric o.cost) q.operators)) sas_is
        ∙ ap (placed between.costs 0) (map_same _ _ y.operators (λ o. ap (λ (m : ℕ). cost_by m o.cost) metric_is ∙ cost_same y.metric o.cost)) in
        let asked : now.conditions ≡ filled_rows between.conditions 0 (map conditions_of y.operators) = body.conditions_read ∙ ap (λ (q : Sas). filled_rows between.conditions 0 (map conditions_of q.operators)) sas_is in
        let set : now.effects ≡ filled_rows between.effects 0 (map effects_of y.operators) = body.effects_read ∙ ap (λ (q : Sas). filled_rows between.effects 0 (map effects_of q.operators)) sas_is in
        (λ i. held (arrays (count i) (actions i) (size i) (start i) (aim i) (cost i) (asked i) (set i)))
        ∙ stated_held y sizes₀ starts₀ between.goal between.costs between.conditions between.effects kept.within kept.accepted sizes_room starts_room room.goal room.costs room.conditions room.effects
        ∙ sym kept.task

  pub text_read : 64 ≤ length sizes₀ → 64 ≤ length starts₀ → Roomy between → h.variables ≡ between.variables → TextRead s o now
  text_read sizes_room starts_room room counted =
      record {
        outcome = text_outcome;
        few_variables = λ z. omega (arith, second.variables, counted, first.few);
        few_actions = second.few_actions;
        task = task_is sizes_room starts_room room counted;
      }
