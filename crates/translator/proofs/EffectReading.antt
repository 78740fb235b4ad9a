-- An effect, from the code's own steps: what is read and tested, and how its old and its new value are stored.
use Prim.Native.Nat.{ℕ, ◌+◌, ◌≤◌, ◌<◌}
use mathlib.Core.Path.{◌≡◌, refl, sym, ap, ap₂, ◌∙◌}
use mathlib.Core.Bool.{Bool, true, false, not, cond, ◌&&◌, ◌||◌}
use mathlib.Core.List.{List, [], ◌∷◌}
use mathlib.Core.Option.{Option, none, some}
use native.Mathlib.Omega.{arith}
use lib.Dec.{eqb, ltb}
use lib.ListN.{length, get_or, drop}
use borrow.Author.Tests.{ne_eqb, eq-eqb, eqb-true, ltb-true}
use Rattle.std.specs.Prelude as Std
use Rattle.std.specs.Prelude.{Some, None}
use Rattle.files.specs.declared.refusals.Refusal.{Refusal}
use Rattle.files.specs.Outcome.{done, guard, refused}
use Rattle.translator.specs.Reads.{code_of, Told}
use Rattle.translator.proofs.Calls.{judged_open, judged_stop, judged_shut, passed_open, value_open, value_shut}
use Rattle.files.proofs.Logic.{split, clash}
use Rattle.files.specs.Below.{any_of}
use Rattle.files.specs.Rows.{stored, filled}
use Rattle.files.specs.Task.{Pair}
use Rattle.translator.specs.Cursors.{Cursor}
use Rattle.translator.specs.Cursors.{ReadNumber}
use Rattle.translator.specs.Clauses.{capped, coded, with_number, number_after, signed_after, judged, number_by, same}
use Rattle.translator.specs.ListContracts.{is_new, Given, variable_of, value_below}
use Rattle.translator.specs.OperatorContracts.{plain_after, below_or_none, old_below, stored_option, EffectStored}
use Rattle.translator.specs.Fields.{number, signed, field_value}
use Rattle.translator.specs.Format.{unsupported, out_of_range, unless, Format, gives, field, bind, repeat, cursor_at, cursor_refused, is_open, step_after, cursor_after, value_after}
use Rattle.translator.specs.Sas.{Effect, blank, line_feed}
use Rattle.translator.specs.Stated.{is_value, is_old_value, old_pairs, new_pairs}
use Rattle.translator.specs.Text.{each, variable_fault, value_fault, old_fault, free_pair, effect}
use Rattle.translator.proofs.NumberReading.{capped_small, capped_most}
use Rattle.translator.proofs.ReadingLaws.{after_refused, open_before}
use Rattle.translator.proofs.StepReading.{eqb_capped, ltb_capped, step_fine, unless_none, number_is, signed_is, read_value, read_tested, read_with_number}
use Rattle.translator.proofs.RowReading.{new_stored}
use Rattle.translator.proofs.ListReading.{step_same, number_cursor, number_value, variable_known, value_below_lem}

-- no effect conditions
pub plain_read : (s : List ℕ) (c : Cursor) (n : ReadNumber) (j : Cursor) → n ≡ number_after blank s c → j ≡ judged n.cursor (eqb n.value 0) 32 c.at → j ≡ plain_after s c
unfolding plain_after
plain_read s c n j is e =
    let v : ℕ = field_value (number blank) (drop c.at s) in
    read_tested (number blank) s c n (capped v) (number_is blank s c n is) unsupported (λ x. eqb x 0) (eqb n.value 0) j
    (λ o. ap (λ (x : ℕ). eqb x 0) (read_value (number blank) s c n (capped v) (number_is blank s c n is) o) ∙ eqb_capped v 0 (omega arith)) e

-- coded old values
unfoldable pub is_old : ℕ → ℕ → Bool
is_old value size = cond (eqb value 1048577) true (ltb value size)

unfoldable pub stored_old : List ℕ → ℕ → ℕ → ℕ → List ℕ
stored_old row base v value = cond (eqb value 1048577) row (stored row base v value)

pub old_none : (value size : ℕ) → value ≡ 1048577 → true ≡ is_old value size
unfolding is_old
old_none value size e = rw (eq-eqb value 1048577 e) refl

pub old_some : (value size : ℕ) → (value ≡ 1048577 → ⊥) → ltb value size ≡ is_old value size
unfolding is_old
old_some value size d = rw (ne_eqb value 1048577 d) refl

pub stored_none : (row : List ℕ) (base v value : ℕ) → value ≡ 1048577 → row ≡ stored_old row base v value
unfolding stored_old
stored_none row base v value e = rw (eq-eqb value 1048577 e) refl

pub stored_some : (row now : List ℕ) (base v value : ℕ) → (value ≡ 1048577 → ⊥) → now ≡ stored row base v value → now ≡ stored_old row base v value
unfolding stored_old
stored_some row now base v value d e = rw (ne_eqb value 1048577 d) e

capped_some : (n : ℕ) → capped n ≡ 1048577 → ⊥
capped_some n e = omega (arith, capped_most n)

old_coded : (o : Option ℕ) (size : ℕ) → size < 1048576 → is_old (coded o) size ≡ below_or_none size o
old_coded none size h = sym (old_none 1048577 size refl)
old_coded (some n) size h = sym (old_some (capped n) size (capped_some n)) ∙ ltb_capped n size (omega arith)

pub old_read : (s : List ℕ) (c : Cursor) (n : ReadNumber) (size : ℕ) (b : Bool) (j : Cursor) (r : ReadNumber) → n ≡ signed_after blank s c → size < 1048576 → b ≡ is_old n.value size → j ≡ judged n.cursor b 5 c.at → r ≡ with_number j n.value
    → r ≡ number_by (old_below size) coded s c
old_read s c n size b j r is h t e q =
    let v : Option ℕ = field_value (signed blank) (drop c.at s) in
    read_with_number (signed blank) s c n coded (signed_is blank s c n is) out_of_range (below_or_none size) coded b j r
    (λ o. t ∙ ap (λ (x : ℕ). is_old x size) (read_value (signed blank) s c n (coded v) (signed_is blank s c n is) o) ∙ old_coded v size h)
    (λ o. refl) e q

-- an old value that is tested where there is one
module _ (s : List ℕ) (c : Cursor) (size : ℕ) (low : size < 1048576) where
  pub old_refused : (e : Refusal) → record { cursor = cursor_refused (refused e); value = 0 } ≡ signed_after blank s c → record { cursor = cursor_refused (refused e); value = 0 } ≡ number_by (old_below size) coded s c
  old_refused e h = old_read s c _ size _ _ _ h low refl (judged_shut e _ _ _) (value_shut e _)

  module _ (at : ℕ) where
    pub old_absent : record { cursor = cursor_at at; value = 1048577 } ≡ signed_after blank s c → record { cursor = cursor_at at; value = 1048577 } ≡ number_by (old_below size) coded s c
    old_absent h = old_read s c _ size true (cursor_at at) _ h low (old_none 1048577 size refl) (passed_open at 5 c.at) (value_open _ _)

    module _ (n : ℕ) (told : n ≤ 1048576) (h : record { cursor = cursor_at at; value = n } ≡ signed_after blank s c) where
      told_some : n ≡ 1048577 → ⊥
      told_some e = omega arith

      pub old_fails : (e : Refusal) → refused e ≡ guard (ltb n size) 5 c.at done → record { cursor = cursor_refused (refused e); value = 0 } ≡ number_by (old_below size) coded s c
      old_fails e f = old_read s c _ size (ltb n size) _ _ h low (old_some n size told_some) (judged_stop e at _ _ _ f) (value_shut e _)

      pub old_passes : done ≡ guard (ltb n size) 5 c.at done → record { cursor = cursor_at at; value = n } ≡ number_by (old_below size) coded s c
      old_passes f = old_read s c _ size (ltb n size) _ _ h low (old_some n size told_some) (judged_open at _ _ _ (omega arith) f) (value_open _ _)

pub stored_told : (row : List ℕ) (base v : ℕ) (o : Std.Option ℕ) → Told o → stored_option row base v o ≡ stored_old row base v (code_of o)
stored_told row base v None h = stored_none row base v 1048577 refl
stored_told row base v (Some n) h = stored_some row _ base v n (λ e. omega arith) refl

-- the fields behind the count of conditions
effect_of : List ℕ → List ℕ → List Pair → Format Effect
effect_of sizes given conditions =
    field (number blank) (variable_fault sizes given) (λ v.
    field (signed blank) (old_fault sizes v) (λ old.
    field (number line_feed) (value_fault sizes v) (λ new.
    gives (record { conditions = conditions; variable = v; old = old; new = new }))))

module _ (sizes given s : List ℕ) (c : Cursor) where
  none_counted : is_open (plain_after s c) ≡ true → field_value (number blank) (drop c.at s) ≡ 0
  unfolding plain_after
  none_counted o =
      let v : ℕ = field_value (number blank) (drop c.at s) in
      eqb-true v 0 (unless_none (eqb v 0) unsupported none (step_fine (number blank) (λ n. unless (eqb n 0) unsupported none) s c o)).0

  effect_after : cursor_after (effect sizes given) s c ≡ cursor_after (effect_of sizes given []) s (plain_after s c)
  unfolding effect effect_of cursor_after plain_after bind each repeat
  effect_after =
      split (is_open (plain_after s c))
      (λ o. ap (λ (n : ℕ). cursor_after (bind (each (free_pair blank) n) (effect_of sizes given)) s (plain_after s c)) (none_counted o))
      (λ o. after_refused (bind (each (free_pair blank) (field_value (number blank) (drop c.at s))) (effect_of sizes given)) s (plain_after s c) o ∙ sym (after_refused (effect_of sizes given []) s (plain_after s c) o))

  effect_value : is_open (plain_after s c) ≡ true → value_after (effect sizes given) s c ≡ value_after (effect_of sizes given []) s (plain_after s c)
  unfolding effect effect_of value_after plain_after bind each repeat
  effect_value o = ap (λ (n : ℕ). value_after (bind (each (free_pair blank) n) (effect_of sizes given)) s (plain_after s c)) (none_counted o)

plain_before : (s : List ℕ) (c : Cursor) → is_open (plain_after s c) ≡ true → is_open c ≡ true
unfolding plain_after cursor_after
plain_before s c e = open_before (field (number blank) (λ n. unless (eqb n 0) unsupported none) gives) s c e

-- nothing is stored behind a refusal
pub effect_up : (s : List ℕ) (c : Cursor) (sizes given conditions effects : List ℕ) (base : ℕ) (r : Cursor) (conditions_now effects_now : List ℕ) → r ≡ cursor_after (effect sizes given) s c → is_open r ≡ false
    → EffectStored s c sizes given conditions effects base r conditions_now effects_now
effect_up s c sizes given conditions effects base r conditions_now effects_now e d =
    record { cursor = e; conditions_row = λ o. clash o d; effects_row = λ o. clash o d; gives = λ o. clash o d }

-- one effect
module _ (s : List ℕ) (c : Cursor) (sizes given conditions effects : List ℕ) (base : ℕ) (begun : Cursor) (n before new : ReadNumber) (size : ℕ)
    (few : length sizes ≤ 64) (conditions_long : base + 64 ≤ length conditions) (effects_long : base + 64 ≤ length effects)
    (rows : is_open c ≡ true → Given conditions effects base given)
    (plain : begun ≡ plain_after s c)
    (named : n ≡ number_by (variable_of sizes given) same s begun) (sized : size ≡ get_or sizes n.value 0) (small : size < 256)
    (olds : before ≡ number_by (old_below size) coded s n.cursor) (news : new ≡ number_by (value_below size) same s before.cursor) where
  P : Cursor
  P = plain_after s c

  K : Cursor
  K = cursor_after (variable_of sizes given) s P

  w : ℕ
  w = value_after (variable_of sizes given) s P

  O : Cursor
  O = cursor_after (old_below size) s K

  old : Option ℕ
  old = value_after (old_below size) s K

  N : Cursor
  N = cursor_after (value_below size) s O

  d : ℕ
  d = value_after (value_below size) s O

  variable_is : n ≡ number_by (variable_of sizes given) same s P
  unfolding P
  variable_is = named ∙ ap (number_by (variable_of sizes given) same s) plain

  K_is : n.cursor ≡ K
  unfolding K
  K_is = number_cursor (variable_of sizes given) same s P n variable_is

  O_is : before.cursor ≡ O
  unfolding O
  O_is = number_cursor (old_below size) coded s n.cursor before olds ∙ ap (cursor_after (old_below size) s) K_is

  N_is : new.cursor ≡ N
  unfolding N
  N_is = number_cursor (value_below size) same s before.cursor new news ∙ ap (cursor_after (value_below size) s) O_is

  O_open : is_open N ≡ true → is_open O ≡ true
  unfolding N
  O_open = open_before (value_below size) s O

  K_open : is_open O ≡ true → is_open K ≡ true
  unfolding O
  K_open = open_before (old_below size) s K

  P_open : is_open K ≡ true → is_open P ≡ true
  unfolding K
  P_open = open_before (variable_of sizes given) s P

  w_is : is_open K ≡ true → n.value ≡ w
  unfolding K w
  w_is = number_value (variable_of sizes given) same s P n variable_is

  o_is : is_open O ≡ true → before.value ≡ coded old
  unfolding O old
  o_is e = number_value (old_below size) coded s n.cursor before olds (ap (λ (x : Cursor). is_open (cursor_after (old_below size) s x)) K_is ∙ e) ∙ ap (λ (x : Cursor). coded (value_after (old_below size) s x)) K_is

  d_is : is_open N ≡ true → new.value ≡ d
  unfolding N d
  d_is e = number_value (value_below size) same s before.cursor new news (ap (λ (x : Cursor). is_open (cursor_after (value_below size) s x)) O_is ∙ e) ∙ ap (value_after (value_below size) s) O_is

  known : is_open K ≡ true → w < length sizes
  unfolding K w
  known e = variable_known sizes given s P e

  size_is : is_open K ≡ true → size ≡ get_or sizes w 0
  size_is e = sized ∙ ap (λ (v : ℕ). get_or sizes v 0) (w_is e)

  old_same : (o : Option ℕ) → is_open K ≡ true → below_or_none size o ≡ is_old_value sizes w o
  unfolding is_old_value is_value
  old_same none e = refl
  old_same (some x) e = ap (ltb x) (size_is e)

  O_after : O ≡ step_after (signed blank) (old_fault sizes w) s K
  unfolding O cursor_after
  O_after = step_same (signed blank) (λ o. unless (below_or_none size o) out_of_range none) (old_fault sizes w) s K
      (λ e. ap (λ (t : Bool). unless t out_of_range none) (old_same (field_value (signed blank) (drop K.at s)) e))

  N_after : N ≡ step_after (number line_feed) (value_fault sizes w) s O
  unfolding N cursor_after is_value
  N_after = step_same (number line_feed) (λ x. unless (ltb x size) out_of_range none) (value_fault sizes w) s O
      (λ e. ap (λ (k : ℕ). unless (ltb (field_value (number line_feed) (drop O.at s)) k) out_of_range none) (size_is (K_open e)))

  cursor_is : new.cursor ≡ cursor_after (effect sizes given) s c
  unfolding effect_of cursor_after value_after K w P
  cursor_is = N_is ∙ N_after ∙ ap (step_after (number line_feed) (value_fault sizes w) s) O_after ∙ sym (effect_after sizes given s c)

  value_is : is_open N ≡ true → record { conditions = []; variable = w; old = old; new = d } ≡ value_after (effect sizes given) s c
  unfolding effect_of cursor_after value_after K w P old d
  value_is e =
      (λ i. record { conditions = []; variable = w; old = old; new = value_after (value_below size) s (O_after i) })
      ∙ sym (effect_value sizes given s c (P_open (K_open (O_open e))))

  old_fits : is_open O ≡ true → below_or_none size old ≡ true
  unfolding O old cursor_after value_after
  old_fits e = (unless_none (below_or_none size (field_value (signed blank) (drop K.at s))) out_of_range none (step_fine (signed blank) (λ o. unless (below_or_none size o) out_of_range none) s K e)).0

  new_fits : is_open N ≡ true → d < size
  unfolding N d
  new_fits e = value_below_lem size s O e

  -- a coded old value as it is stored
  old_row : (o : Option ℕ) → below_or_none size o ≡ true → stored_old conditions base w (coded o) ≡ filled conditions base (old_pairs (record { conditions = []; variable = w; old = o; new = d } ∷ []))
  unfolding old_pairs filled
  old_row none e = sym (stored_none conditions base w 1048577 refl)
  old_row (some x) e = sym (stored_some conditions (stored conditions base w x) base w (capped x) (capped_some x) (ap (stored conditions base w) (capped_small x (omega (arith, ltb-true x size e)))))

  new_old : (o : Option ℕ) (v : ℕ) → is_open K ≡ true → below_or_none size o ≡ true → not (eqb v w) && is_new (stored_old conditions base w (coded o)) base v ≡ not (eqb v w) && is_new conditions base v
  new_old none v k e = sym (ap (λ (l : List ℕ). not (eqb v w) && is_new l base v) (stored_none conditions base w 1048577 refl))
  new_old (some x) v k e =
      let low : x < 255 = omega (arith, ltb-true x size e) in
      let is : stored conditions base w x ≡ stored_old conditions base w (capped x) =
      stored_some conditions (stored conditions base w x) base w (capped x) (capped_some x) (ap (stored conditions base w) (capped_small x (omega arith))) in
      sym (ap (λ (l : List ℕ). not (eqb v w) && is_new l base v) is)
      ∙ ap (λ (b : Bool). not (eqb v w) && b) (new_stored conditions base w x v (omega (arith, known k)) low conditions_long)
      ∙ twice (eqb v w) (is_new conditions base v)
    where
      twice : (a b : Bool) → not a && (not a && b) ≡ not a && b
      twice true b = refl
      twice false b = refl

  pub effect_stored : (conditions_now effects_now : List ℕ) → conditions_now ≡ stored_old conditions base n.value before.value → effects_now ≡ stored effects base n.value new.value
      → EffectStored s c sizes given conditions effects base new.cursor conditions_now effects_now
  unfolding P new_pairs filled
  effect_stored conditions_now effects_now e f =
      record {
        cursor = cursor_is;
        conditions_row = λ q. let k = opened q in conditions_are k ∙ old_row old (old_fits (O_open k)) ∙ ap (λ (x : Effect). filled conditions base (old_pairs (x ∷ []))) (value_is k);
        effects_row = λ q. let k = opened q in effects_are k ∙ ap (λ (x : Effect). filled effects base (new_pairs (x ∷ []))) (value_is k);
        gives = λ q v.
            let k = opened q in
            let open' : is_open K ≡ true = K_open (O_open k) in
            let second : is_new effects_now base v ≡ not (eqb v w) && is_new effects base v =
            ap (λ (l : List ℕ). is_new l base v) (effects_are k) ∙ new_stored effects base w d v (omega (arith, known open')) (omega (arith, new_fits k)) effects_long in
            ap₂ (λ (l : List ℕ) (b : Bool). is_new l base v && b) (conditions_are k) second
            ∙ gather (eqb v w) (is_new (stored_old conditions base w (coded old)) base v) (is_new effects base v)
            ∙ ap (λ (b : Bool). b && is_new effects base v) (new_old old v open' (old_fits (O_open k)))
            ∙ joined (eqb v w) (is_new conditions base v) (is_new effects base v) (any_of (eqb v) given) (rows (begun_open open') v)
            ∙ ap (λ (x : Effect). not (any_of (eqb v) (x.variable ∷ given))) (value_is k);
      }
    where
      opened : is_open new.cursor ≡ true → is_open N ≡ true
      opened q = sym (ap is_open N_is) ∙ q

      begun_open : is_open K ≡ true → is_open c ≡ true
      begun_open k = plain_before s c (P_open k)

      conditions_are : is_open N ≡ true → conditions_now ≡ stored_old conditions base w (coded old)
      conditions_are k = e ∙ ap₂ (stored_old conditions base) (w_is (K_open (O_open k))) (o_is (O_open k))

      effects_are : is_open N ≡ true → effects_now ≡ stored effects base w d
      effects_are k = f ∙ ap₂ (stored effects base) (w_is (K_open (O_open k))) (d_is k)

      gather : (a b c : Bool) → b && (not a && c) ≡ (not a && b) && c
      gather true true c = refl
      gather true false c = refl
      gather false b c = refl

      joined : (a b c g : Bool) → b && c ≡ not g → (not a && b) && c ≡ not (a || g)
      joined true b c g h = refl
      joined false b c g h = h
