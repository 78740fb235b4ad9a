-- The first part of a text, from the code's own steps: the metric, the variables with their start values, and the groups.
use Prim.Native.Nat.{ℕ, zero, suc, ◌+◌, ◌%◌, ◌≤◌}
use mathlib.Core.Path.{◌≡◌, refl, sym, ap, ap₂, ◌∙◌}
use mathlib.Core.Bool.{true, false, cond}
use mathlib.Core.List.{List, [], ◌∷◌}
use native.Mathlib.Omega.{arith}
use lib.Dec.{eqb}
use lib.ListN.{length, get_or, take, drop, length-map}
use lib.Seq.{take_at}
use borrow.Author.Tests.{ne_eqb, eqb-true, eqb-false}
use Rattle.files.proofs.Logic.{split, clash}
use Rattle.files.specs.Outcome.{Outcome, guard, overwrite, refused}
use Rattle.files.specs.Below.{bit}
use Rattle.files.specs.Bytes.{placed}
use Rattle.files.proofs.Placed.{placed_overwrite}
use Rattle.files.specs.declared.refusals.Refusal.{Refusal}
use Rattle.digits.specs.Decimal.{ascii}
use Rattle.translator.specs.Cursors.{Cursor}
use Rattle.translator.specs.Cursors.{ReadNumber}
use Rattle.translator.specs.Clauses.{with_number, number_by, same}
use Rattle.translator.specs.VariableContracts.{size_of, stored_sizes, stored_starts, DeclarationsRead, StartsStored, StartsRead, groups_after}
use Rattle.translator.specs.Fields.{word, flag, number, byte_at, word_at, is_flag, field_at, field_length, field_value}
use Rattle.translator.specs.Format.{field, repeat, cursor_at, cursor_refused, is_open, cursor_by, field_after, cursor_after, value_after}
use Rattle.translator.specs.Parts.{Front, front, metric_after, FrontRead}
use Rattle.translator.specs.Sas.{Declaration, Started, line_feed}
use Rattle.translator.specs.Stated.{sizes_of}
use Rattle.translator.specs.Text.{any, each, count, declaration, group, starts}
use Rattle.translator.proofs.CountReading.{count_most}
use Rattle.translator.proofs.Calls.{closed, after_shut}
use Rattle.translator.proofs.ReadingLaws.{field_closed, open_before}
use Rattle.translator.proofs.RepeatReading.{each_more, each_value, each_length}
use Rattle.translator.proofs.StepReading.{with_number_cursor, with_number_value, with_number_is}
use Rattle.translator.proofs.TextParts.{at_metric, metric_in, behind_metric, at_count, count_in, at_variables, declarations_in, at_groups, behind_groups, at_starts, variables_in, behind_starts, front_after, front_value}
use Rattle.translator.proofs.InsideReading.{field_before, after_with_number}
use Rattle.translator.proofs.VariableReading.{declaration_size}

-- the metric is the word of its digit
flag_one : (r : List ℕ) (at : ℕ) → get_or r 0 0 ≡ 49 → field_at (word (49 ∷ 10 ∷ [])) r at ≡ field_at flag r at
unfolding field_at word_at is_flag byte_at guard
flag_one [] at e = absurd (omega arith)
flag_one (b ∷ []) at e = rw e refl
flag_one (b ∷ d ∷ r) at e = rw e refl

flag_zero : (r : List ℕ) (at : ℕ) → (get_or r 0 0 ≡ 49 → ⊥) → field_at (word (48 ∷ 10 ∷ [])) r at ≡ field_at flag r at
unfolding field_at word_at is_flag byte_at guard
flag_zero [] at d = refl
flag_zero (b ∷ []) at d = split (eqb b 48) (λ e. rw e refl) (λ e. rw (e, ne_eqb b 49 d) refl)
flag_zero (b ∷ x ∷ r) at d = split (eqb b 48) (λ e. rw e refl) (λ e. rw (e, ne_eqb b 49 d) refl)

pub metric_one : (s : List ℕ) (c w : Cursor) (r : ReadNumber) → true ≡ eqb (get_or (drop c.at s) 0 0) 49 → w ≡ field_after (word (49 ∷ 10 ∷ [])) s c → r ≡ with_number w 1 → r ≡ metric_after s c
unfolding metric_after field_after field_length field_value
metric_one s c w r z f q =
    let first : get_or (drop c.at s) 0 0 ≡ 49 = eqb-true (get_or (drop c.at s) 0 0) 49 (sym z) in
    q
    ∙ ap₂ with_number
    (f ∙ ap (λ (o : Outcome). cond (is_open c) (cursor_by o (c.at + 2)) c) (flag_one (drop c.at s) c.at first))
    (ap bit z)

pub metric_zero : (s : List ℕ) (c w : Cursor) (r : ReadNumber) → false ≡ eqb (get_or (drop c.at s) 0 0) 49 → w ≡ field_after (word (48 ∷ 10 ∷ [])) s c → r ≡ with_number w 0 → r ≡ metric_after s c
unfolding metric_after field_after field_length field_value
metric_zero s c w r z f q =
    q
    ∙ ap₂ with_number
    (f ∙ ap (λ (o : Outcome). cond (is_open c) (cursor_by o (c.at + 2)) c) (flag_zero (drop c.at s) c.at (eqb-false (get_or (drop c.at s) 0 0) 49 (sym z))))
    (ap bit z)

-- nothing is read behind a refusal
module _ (s : List ℕ) (e : Refusal) where
  pub metric_shut : record { cursor = cursor_refused (refused e); value = 0 } ≡ metric_after s (cursor_refused (refused e))
  unfolding metric_after with_number
  metric_shut = rw (field_closed flag s (cursor_refused (refused e)) (closed e), closed e) refl

  pub groups_shut : cursor_refused (refused e) ≡ groups_after s (cursor_refused (refused e))
  unfolding groups_after
  groups_shut = after_shut s e (field (number line_feed) any (λ n. each group n))

  pub declarations_shut : (count : ℕ) (before now : List ℕ) → DeclarationsRead s (cursor_refused (refused e)) count before (cursor_refused (refused e)) now
  declarations_shut count before now = record { cursor = after_shut s e (each declaration count); stored = λ o. clash o (closed e) }

  pub starts_shut : (count : ℕ) (sizes before now : List ℕ) → StartsRead s (cursor_refused (refused e)) count sizes before (cursor_refused (refused e)) now
  starts_shut count sizes before now = record { is = λ ds h. record { cursor = after_shut s e (starts ds); stored = λ o. clash o (closed e) } }

-- the front of an array behind what is placed there
placed_front : (b xs : List ℕ) (n : ℕ) → length xs ≡ n → n ≤ length b → take n (placed b 0 xs) ≡ xs
unfolding overwrite
placed_front b xs n e h = ap (take n) (placed_overwrite b xs (omega arith)) ∙ take_at xs (drop (length xs) b) n e

-- sizes are stored as they are
sizes_stored : (n : ℕ) (s : List ℕ) (c : Cursor) → is_open (cursor_after (each declaration n) s c) ≡ true → stored_sizes (value_after (each declaration n) s c) ≡ sizes_of (value_after (each declaration n) s c)
unfolding each repeat value_after
sizes_stored zero s c o = refl
sizes_stored (suc n) s c o =
    let d : Declaration = value_after declaration s c in
    let rest : is_open (cursor_after (each declaration n) s (cursor_after declaration s c)) ≡ true = sym (ap is_open (each_more declaration s n c)) ∙ o in
    let small : size_of d % 256 ≡ size_of d = omega (arith, declaration_size s c (open_before (each declaration n) s (cursor_after declaration s c) rest)) in
    ap stored_sizes (each_value declaration s n c)
    ∙ ap₂ ◌∷◌ small (sizes_stored n s (cursor_after declaration s c) rest)
    ∙ sym (ap sizes_of (each_value declaration s n c))

module _ (s : List ℕ) (start begun : Cursor) (metric : ReadNumber) (measured : Cursor) (cnt : ReadNumber) (declared grouped opened started : Cursor)
    (sizes₀ sizes starts₀ starts_now : List ℕ)
    (e₀ : start ≡ cursor_at 0)
    (e₁ : begun ≡ field_after (word (ascii "begin_version\n3\nend_version\nbegin_metric\n")) s start)
    (e₂ : metric ≡ metric_after s begun)
    (e₃ : measured ≡ field_after (word (ascii "end_metric\n")) s metric.cursor)
    (e₄ : cnt ≡ number_by (count 64) same s measured)
    (e₅ : DeclarationsRead s cnt.cursor cnt.value sizes₀ declared sizes)
    (e₆ : grouped ≡ groups_after s declared)
    (e₇ : opened ≡ field_after (word (ascii "begin_state\n")) s grouped)
    (e₈ : StartsRead s opened cnt.value sizes starts₀ started starts_now)
    (room : 64 ≤ length sizes₀) where
  metric_is : metric ≡ with_number (behind_metric s) (bit (metric_in s))
  unfolding metric_after metric_in behind_metric at_metric
  metric_is = e₂ ∙ ap (metric_after s) (e₁ ∙ ap (field_after (word (ascii "begin_version\n3\nend_version\nbegin_metric\n")) s) e₀)

  cnt_is : cnt ≡ with_number (at_variables s) (count_in s)
  unfolding number_by at_variables count_in at_count
  cnt_is = e₄ ∙ ap (number_by (count 64) same s) (e₃ ∙ ap (field_after (word (ascii "end_metric\n")) s) (with_number_cursor (behind_metric s) _ metric metric_is))

  declared_is : declared ≡ at_groups s
  unfolding at_groups
  declared_is = e₅.cursor ∙ after_with_number (each declaration) s (at_variables s) (count_in s) cnt cnt_is

  opened_is : opened ≡ at_starts s
  unfolding at_starts behind_groups
  opened_is = e₇ ∙ ap (field_after (word (ascii "begin_state\n")) s) (e₆ ∙ ap (groups_after s) declared_is)

  groups_open : is_open (at_starts s) ≡ true → is_open (at_groups s) ≡ true
  unfolding at_starts behind_groups groups_after
  groups_open o = open_before (field (number line_feed) any (λ g. each group g)) s (at_groups s) (field_before (word (ascii "begin_state\n")) s (behind_groups s) o)

  variables_open : is_open (at_groups s) ≡ true → is_open (at_variables s) ≡ true
  unfolding at_groups
  variables_open = open_before (each declaration (count_in s)) s (at_variables s)

  counted : is_open (at_groups s) ≡ true → cnt.value ≡ count_in s
  counted o = with_number_value (at_variables s) (count_in s) cnt cnt_is (variables_open o)

  sizes_are : is_open (at_groups s) ≡ true → sizes ≡ placed sizes₀ 0 (stored_sizes (declarations_in s))
  unfolding declarations_in
  sizes_are o =
      e₅.stored (ap is_open declared_is ∙ o)
      ∙ ap (λ (r : ReadNumber). placed sizes₀ 0 (stored_sizes (value_after (each declaration r.value) s r.cursor))) (with_number_is (at_variables s) (count_in s) cnt cnt_is (variables_open o))

  many : length (declarations_in s) ≡ count_in s
  unfolding declarations_in
  many = each_length declaration s (count_in s) (at_variables s)

  -- the sizes that the array holds are the declared ones
  sizes_held_lem : is_open (at_starts s) ≡ true → sizes_of (declarations_in s) ≡ take cnt.value sizes
  unfolding declarations_in at_groups
  sizes_held_lem o =
      let open' = groups_open o in
      let few : cnt.value ≤ 64 = count_most s measured 64 cnt e₄ in
      let long : length (stored_sizes (declarations_in s)) ≡ count_in s = length-map (declarations_in s) (λ d. size_of d % 256) ∙ many in
      sym (sizes_stored (count_in s) s (at_variables s) open')
      ∙ sym (placed_front sizes₀ (stored_sizes (declarations_in s)) cnt.value (long ∙ sym (counted open')) (omega (arith, counted open')))
      ∙ sym (ap (take cnt.value) (sizes_are open'))

  stored : StartsStored s opened (declarations_in s) starts₀ started starts_now
  stored = e₈.is (declarations_in s) (λ o. sizes_held_lem (sym (ap is_open opened_is) ∙ o))

  started_is : started ≡ behind_starts s
  unfolding behind_starts
  started_is = stored.cursor ∙ ap (cursor_after (starts (declarations_in s)) s) opened_is

  starts_open : is_open (behind_starts s) ≡ true → is_open (at_starts s) ≡ true
  unfolding behind_starts
  starts_open = open_before (starts (declarations_in s)) s (at_starts s)

  metric_open : is_open (at_groups s) ≡ true → is_open (behind_metric s) ≡ true
  unfolding at_variables at_count
  metric_open o = field_before (word (ascii "end_metric\n")) s (behind_metric s) (open_before (count 64) s (at_count s) (variables_open o))

  starts_are : value_after (starts (declarations_in s)) s opened ≡ variables_in s
  unfolding variables_in
  starts_are = ap (value_after (starts (declarations_in s)) s) opened_is

  value_is : ((value_after front s (cursor_at 0)).metric ≡ metric_in s) × ((value_after front s (cursor_at 0)).declarations ≡ declarations_in s) × ((value_after front s (cursor_at 0)).variables ≡ variables_in s)
  value_is = (ap (λ (f : Front). f.metric) (front_value s), ap (λ (f : Front). f.declarations) (front_value s), ap (λ (f : Front). f.variables) (front_value s))

  pub front_read : FrontRead s sizes₀ starts₀ (record { cursor = started; metric = metric.value; variables = cnt.value }) sizes starts_now
  front_read =
      record {
        cursor = started_is ∙ sym (front_after s);
        few = count_most s measured 64 cnt e₄;
        metric = λ o. with_number_value (behind_metric s) _ metric metric_is (metric_open (all_open o)) ∙ ap bit (sym value_is.0);
        counted = λ o. counted (all_open o) ∙ sym many ∙ ap length (sym value_is.1);
        sizes_held = λ o. ap sizes_of value_is.1 ∙ sizes_held_lem (starts_open (sym (ap is_open started_is) ∙ o));
        sizes_read = λ o. sizes_are (all_open o) ∙ ap (λ (l : List Declaration). placed sizes₀ 0 (stored_sizes l)) (sym value_is.1);
        starts_read = λ o. stored.stored o ∙ ap (λ (l : List Started). placed starts₀ 0 (stored_starts l)) (starts_are ∙ sym value_is.2);
      }
    where
      all_open : is_open started ≡ true → is_open (at_groups s) ≡ true
      all_open o = groups_open (starts_open (sym (ap is_open started_is) ∙ o))

pub front_up : (s : List ℕ) (e : Refusal) (sizes₀ starts₀ sizes starts_now : List ℕ) → cursor_refused (refused e) ≡ cursor_after front s (cursor_at 0) → FrontRead s sizes₀ starts₀ (record { cursor = cursor_refused (refused e); metric = 0; variables = 0 }) sizes starts_now
front_up s e sizes₀ starts₀ sizes starts_now is =
    record {
      cursor = is;
      few = omega arith;
      metric = λ o. clash o (closed e);
      counted = λ o. clash o (closed e);
      sizes_held = λ o. clash o (closed e);
      sizes_read = λ o. clash o (closed e);
      starts_read = λ o. clash o (closed e);
    }
